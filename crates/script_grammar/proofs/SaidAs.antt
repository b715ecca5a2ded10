-- The words of a line say what the words behind the first one say in a line of the kind of the first one.
use Rattle.std.proofs.Common.{◌≡◌, ℕ, List, ◌∷◌, Bool, true, false, Option, None, Some, Result, refl, sym, ap, subst, ◌∙◌, codes, if◌then◌else◌}
use Rattle.std.specs.Str.{bytes_eq}
use Rattle.script_words.specs.Unread.{Reads}
use Rattle.script_words.specs.declared.unread.Unread.{Unread}
use Rattle.script_grammar.specs.LineKinds.{said_by, said_other, said_in_flight, said_at_node, said_left_over}
use Rattle.script_grammar.specs.Reading.{IsOfList, of_link, of_stale_resv, of_want, of_inject, of_reroute}
use Rattle.script_grammar.specs.SaidAs.{has_list, said_as}
use Rattle.script_grammar.specs.declared.line.ScriptLine.{ScriptLine}
use Rattle.script_grammar.specs.Kinds.{declared_kind, flight_kind, left_kind, node_kind, other_kind}
use Rattle.script_grammar.specs.declared.kind.Kind.{Kind}
use Rattle.script_grammar.specs.declared.kind.Kind.TheVariants as kind

-- what words say in a line of a kind, if it is of one
abbrev pub said_if : Option Kind → List (List ℕ) → Option ScriptLine
said_if None behind = None
said_if (Some k) behind = said_as k behind

by_kind : (behind : List (List ℕ)) (b : Bool) (k : Kind) (y : Option ScriptLine) (ks : Option Kind) → y ≡ said_if ks behind
    → (if b then said_as k behind else y) ≡ said_if (if b then Some k else ks) behind
by_kind behind true k y ks others = refl
by_kind behind false k y ks others = others

other_said : (first : List ℕ) (behind : List (List ℕ)) → said_other first behind ≡ said_if (other_kind first) behind
unfolding said_other other_kind
other_said first behind =
    by_kind behind (bytes_eq first (codes "trace")) kind.Trace _ _ (
    by_kind behind (bytes_eq first (codes "report")) kind.Report _ _ (
    by_kind behind (bytes_eq first (codes "flags")) kind.Flags _ _ (
    by_kind behind (bytes_eq first (codes "adverts")) kind.Adverts _ _ (
    by_kind behind (bytes_eq first (codes "reroute")) kind.Reroute _ _ (
    refl)))))

flight_said : (first : List ℕ) (behind : List (List ℕ)) → said_in_flight first behind ≡ said_if (flight_kind first) behind
unfolding said_in_flight flight_kind
flight_said first behind =
    by_kind behind (bytes_eq first (codes "wait")) kind.Wait _ _ (
    by_kind behind (bytes_eq first (codes "pass")) kind.Pass _ _ (
    by_kind behind (bytes_eq first (codes "rounds")) kind.Rounds _ _ (
    by_kind behind (bytes_eq first (codes "deliver")) kind.Deliver _ _ (
    by_kind behind (bytes_eq first (codes "lose")) kind.Lose _ _ (
    by_kind behind (bytes_eq first (codes "copy")) kind.Copy _ _ (
    by_kind behind (bytes_eq first (codes "inject")) kind.Inject _ _ (
    other_said first behind)))))))

at_node_said : (first : List ℕ) (behind : List (List ℕ)) → said_at_node first behind ≡ said_if (node_kind first) behind
unfolding said_at_node node_kind
at_node_said first behind =
    by_kind behind (bytes_eq first (codes "send")) kind.Send _ _ (
    by_kind behind (bytes_eq first (codes "drop")) kind.Drop _ _ (
    by_kind behind (bytes_eq first (codes "advert")) kind.Advert _ _ (
    by_kind behind (bytes_eq first (codes "want")) kind.Want _ _ (
    by_kind behind (bytes_eq first (codes "quit")) kind.Quit _ _ (
    by_kind behind (bytes_eq first (codes "clear")) kind.Clear _ _ (
    flight_said first behind))))))

left_over_said : (first : List ℕ) (behind : List (List ℕ)) → said_left_over first behind ≡ said_if (left_kind first) behind
unfolding said_left_over left_kind
left_over_said first behind =
    by_kind behind (bytes_eq first (codes "stale-path")) kind.StalePath _ _ (
    by_kind behind (bytes_eq first (codes "stale-resv")) kind.StaleResv _ _ (
    by_kind behind (bytes_eq first (codes "stale-blockade")) kind.Blockade _ _ (
    at_node_said first behind)))

said_of_first : (first : List ℕ) (behind : List (List ℕ)) → said_by (first ∷ behind) ≡ said_if (declared_kind first) behind
unfolding said_by declared_kind
said_of_first first behind =
    by_kind behind (bytes_eq first (codes "period")) kind.Period _ _ (
    by_kind behind (bytes_eq first (codes "seed")) kind.Seed _ _ (
    by_kind behind (bytes_eq first (codes "node")) kind.Node _ _ (
    by_kind behind (bytes_eq first (codes "end")) kind.End _ _ (
    by_kind behind (bytes_eq first (codes "latency")) kind.Latency _ _ (
    by_kind behind (bytes_eq first (codes "link")) kind.Link _ _ (
    by_kind behind (bytes_eq first (codes "hop")) kind.Hop _ _ (
    left_over_said first behind)))))))

-- what reads the words as a line of their kind reads them
pub reads_of_kind : (r : Result ScriptLine Unread) (first : List ℕ) (behind : List (List ℕ)) (k : Kind) → declared_kind first ≡ Some k → Reads r (said_as k behind)
    → Reads r (said_by (first ∷ behind))
reads_of_kind r first behind k is reads = subst (Reads r) (sym (said_of_first first behind ∙ ap (λ ks. said_if ks behind) is)) reads

pub of_no_kind : (first : List ℕ) (behind : List (List ℕ)) → declared_kind first ≡ None → said_by (first ∷ behind) ≡ None
of_no_kind first behind is = said_of_first first behind ∙ ap (λ ks. said_if ks behind) is

-- ---- the kinds in which words stand for a list
-- where the kind is one in which words stand for a list, the first word is that of one
abbrev Lists : Option Kind → List ℕ → Type 0
Lists ks first = (k : Kind) → ks ≡ Some k → has_list k ≡ true → IsOfList first

of_list : (first : List ℕ) (b : Bool) (k : Kind) (ks : Option Kind) → (b ≡ true → IsOfList first) → Lists ks first → Lists (if b then Some k else ks) first
of_list first true k ks this others of is lists = this refl
of_list first false k ks this others of is lists = others of is lists

of_none : (first : List ℕ) (b : Bool) (k : Kind) (ks : Option Kind) → has_list k ≡ false → Lists ks first → Lists (if b then Some k else ks) first
of_none first true k ks none others of is lists = absurd (cc)
of_none first false k ks none others of is lists = others of is lists

other_lists : (first : List ℕ) → Lists (other_kind first) first
unfolding other_kind
other_lists first =
    of_none first (bytes_eq first (codes "trace")) kind.Trace _ refl (
    of_none first (bytes_eq first (codes "report")) kind.Report _ refl (
    of_none first (bytes_eq first (codes "flags")) kind.Flags _ refl (
    of_none first (bytes_eq first (codes "adverts")) kind.Adverts _ refl (
    of_list first (bytes_eq first (codes "reroute")) kind.Reroute _ (λ is. of_reroute is) (
    λ k is lists. absurd (cc))))))

flight_lists : (first : List ℕ) → Lists (flight_kind first) first
unfolding flight_kind
flight_lists first =
    of_none first (bytes_eq first (codes "wait")) kind.Wait _ refl (
    of_none first (bytes_eq first (codes "pass")) kind.Pass _ refl (
    of_none first (bytes_eq first (codes "rounds")) kind.Rounds _ refl (
    of_none first (bytes_eq first (codes "deliver")) kind.Deliver _ refl (
    of_none first (bytes_eq first (codes "lose")) kind.Lose _ refl (
    of_none first (bytes_eq first (codes "copy")) kind.Copy _ refl (
    of_list first (bytes_eq first (codes "inject")) kind.Inject _ (λ is. of_inject is) (
    other_lists first)))))))

at_node_lists : (first : List ℕ) → Lists (node_kind first) first
unfolding node_kind
at_node_lists first =
    of_none first (bytes_eq first (codes "send")) kind.Send _ refl (
    of_none first (bytes_eq first (codes "drop")) kind.Drop _ refl (
    of_none first (bytes_eq first (codes "advert")) kind.Advert _ refl (
    of_list first (bytes_eq first (codes "want")) kind.Want _ (λ is. of_want is) (
    of_none first (bytes_eq first (codes "quit")) kind.Quit _ refl (
    of_none first (bytes_eq first (codes "clear")) kind.Clear _ refl (
    flight_lists first))))))

left_over_lists : (first : List ℕ) → Lists (left_kind first) first
unfolding left_kind
left_over_lists first =
    of_none first (bytes_eq first (codes "stale-path")) kind.StalePath _ refl (
    of_list first (bytes_eq first (codes "stale-resv")) kind.StaleResv _ (λ is. of_stale_resv is) (
    of_none first (bytes_eq first (codes "stale-blockade")) kind.Blockade _ refl (
    at_node_lists first)))

pub list_of_first : (first : List ℕ) (k : Kind) → declared_kind first ≡ Some k → has_list k ≡ true → IsOfList first
unfolding declared_kind
list_of_first first =
    of_none first (bytes_eq first (codes "period")) kind.Period _ refl (
    of_none first (bytes_eq first (codes "seed")) kind.Seed _ refl (
    of_none first (bytes_eq first (codes "node")) kind.Node _ refl (
    of_none first (bytes_eq first (codes "end")) kind.End _ refl (
    of_none first (bytes_eq first (codes "latency")) kind.Latency _ refl (
    of_list first (bytes_eq first (codes "link")) kind.Link _ (λ is. of_link is) (
    of_none first (bytes_eq first (codes "hop")) kind.Hop _ refl (
    left_over_lists first)))))))
