-- A misfit is said where the demand does not fit.
use Rattle.std.specs.Prelude.{◌≡◌, ◌↔◌, ℕ, ◌==◌, Bool, true, false, cond, List, [], ◌∷◌, ◌++◌, length, Option, None, Some, codes, drop, slice_get, refl}
use Rattle.std.specs.Fmt.{decimal}
use Rattle.std.specs.List.{flat_map}
use Rattle.std.proofs.Common.{sym, ap, subst, ◌∙◌, inl, inr, append_assoc, arith}
use Rattle.network_demand.specs.Misfits.{AreNone}
use Rattle.network_demand.specs.Strays.{why_stray}
use Rattle.network_demand.specs.declared.askers.Asker.{Asker}
use Rattle.network_demand.specs.declared.findings.Findings.{Findings}
use Rattle.network_demand.specs.declared.late.Begun.{Begun}
use Rattle.network_demand.specs.declared.stray.Why.{Why}
use Rattle.network_model.specs.DemandTexts.{IsDemandText, demand_text, last_line}
use Rattle.network_demand.specs.Overhead.{overhead}
use Rattle.rsvp_base.specs.declared.session.Session.{Session}
use Rattle.script_grammar.proofs.Scripts.{leads_one}
use Rattle.script_grammar.specs.Draft.{Draft, nothing, routing}
use Rattle.script_words.specs.Lines.{text_lines}
use Rattle.tree_model.specs.Goals.{DemandsFit}
use Rattle.tree_model.specs.Networks.{Net}
use Rattle.tree_model.specs.Ranks.{longest}
use Rattle.tree_model.specs.Wants.{Locals}
use Rattle.tree_model.specs.declared.hops.End.{End}
use Rattle.tree_model.specs.declared.locals.LocalSender.{LocalSender}
use Rattle.tree_model.specs.declared.locals.LocalWant.{LocalWant}
use Rattle.script_demand.specs.Begun.{begun_by}
use Rattle.script_demand.specs.Findings.{IsFindingsText}
use Rattle.script_demand.specs.Laws.{AMisfitIsSaidWhereTheDemandDoesNotFit, EndsInFitsNo, SaysAMisfit}
use Rattle.script_demand.specs.Texts.{clash_head, clash_text, end_words, findings_text, idle_line, idle_of, idle_text, large_head, large_text, misfits_text, name_at, over_head, over_text, room_line, room_text, sends_words, stray_line, stray_text, strays_text, tables_line, tables_text}
use Rattle.script_demand.proofs.Beginnings.{IsRoom, IsStrays, all_strays, one_before_last, says_on, strays_on, strays_say_nothing}

-- ---- misfits
over_says : (name : List ℕ) (sum capacity : ℕ) → SaysAMisfit (over_head name sum capacity)
unfolding end_words
over_says name sum capacity = (drop 8 (over_head name sum capacity), refl)

large_says : (name : List ℕ) (most mtu : ℕ) → SaysAMisfit (large_head name most mtu)
unfolding end_words
large_says name most mtu = (drop 8 (large_head name most mtu), refl)

clash_says : (s : Session) → SaysAMisfit (clash_head s)
unfolding clash_head
clash_says s = (drop 8 (clash_head s), refl)

tables_say : SaysAMisfit tables_line
unfolding tables_line
tables_say = (drop 8 tables_line, refl)

module _ (nodes names : List (List ℕ)) (ends : List End) (f : Findings) where
  one_over : (e : ℕ) → SaysAMisfit (over_text nodes names ends f e)
  one_over e = says_on _ _ (over_says _ _ _)

  one_large : (e : ℕ) → SaysAMisfit (large_text nodes names ends f e)
  one_large e = says_on _ _ (large_says _ _ _)

  one_clash : (s : Session) → SaysAMisfit (clash_text nodes names f s)
  one_clash s = says_on _ _ (says_on _ _ (clash_says s))

  some_said : (over large : List ℕ) (clashing : List Session) (tables : Bool) → (over ≡ [] → large ≡ [] → clashing ≡ [] → tables ≡ false → ⊥)
      → SaysAMisfit (flat_map (over_text nodes names ends f) over ++ flat_map (large_text nodes names ends f) large ++ flat_map (clash_text nodes names f) clashing ++ tables_text tables)
  some_said (e ∷ es) large clashing tables some =
      says_on (flat_map (over_text nodes names ends f) (e ∷ es) ++ flat_map (large_text nodes names ends f) large ++ flat_map (clash_text nodes names f) clashing) (tables_text tables)
      (says_on (flat_map (over_text nodes names ends f) (e ∷ es) ++ flat_map (large_text nodes names ends f) large) (flat_map (clash_text nodes names f) clashing)
      (says_on (flat_map (over_text nodes names ends f) (e ∷ es)) (flat_map (large_text nodes names ends f) large)
      (says_on (over_text nodes names ends f e) (flat_map (over_text nodes names ends f) es) (one_over e))))
  some_said [] (e ∷ es) clashing tables some =
      says_on (flat_map (large_text nodes names ends f) (e ∷ es) ++ flat_map (clash_text nodes names f) clashing) (tables_text tables)
      (says_on (flat_map (large_text nodes names ends f) (e ∷ es)) (flat_map (clash_text nodes names f) clashing)
      (says_on (large_text nodes names ends f e) (flat_map (large_text nodes names ends f) es) (one_large e)))
  some_said [] [] (s ∷ ss) tables some =
      says_on (flat_map (clash_text nodes names f) (s ∷ ss)) (tables_text tables) (says_on (clash_text nodes names f s) (flat_map (clash_text nodes names f) ss) (one_clash s))
  some_said [] [] [] true some = tables_say
  some_said [] [] [] false some = absurd (some refl refl refl refl)

  -- where something does not fit its text begins with a misfit
  misfits_said : (AreNone f.misfits → ⊥) → SaysAMisfit (misfits_text nodes names ends f)
  misfits_said some =
      some_said f.misfits.over.items f.misfits.large.items f.misfits.clashing.items f.misfits.tables
      (λ over large clashing tables. some (record { over = over; large = large; clashing = clashing; tables = tables }))

  -- where all fits it is empty
  nothing_said : AreNone f.misfits → misfits_text nodes names ends f ≡ []
  nothing_said none = λ i.
      flat_map (over_text nodes names ends f) (none.over i) ++ flat_map (large_text nodes names ends f) (none.large i) ++ flat_map (clash_text nodes names f) (none.clashing i) ++ tables_text (none.tables i)

-- ---- strays
stray_begins : (nodes : List (List ℕ)) (w : LocalWant) (why : Why) → IsStrays (stray_line nodes w why)
unfolding stray_line
stray_begins nodes w why = inr (drop 7 (stray_line nodes w why), refl)

idle_begins : (node : List ℕ) (x : LocalSender) → IsStrays (idle_line node x)
unfolding sends_words
idle_begins node x = inr (drop 7 (idle_line node x), refl)

one_stray : (nodes : List (List ℕ)) (l : Locals) (a : Asker) → IsStrays (stray_text nodes l a)
one_stray nodes l a = by (length a.ends.items == 0)
  where
    by : (b : Bool) → IsStrays (cond b (stray_line nodes a.want (why_stray l a.want)) [])
    by true = stray_begins nodes a.want (why_stray l a.want)
    by false = inl refl

one_idle : (nodes : List (List ℕ)) (xs : List LocalSender) (place : ℕ) → IsStrays (idle_text nodes xs place)
one_idle nodes xs place = by (slice_get xs place)
  where
    by : (o : Option LocalSender) → IsStrays (idle_of nodes o)
    by None = inl refl
    by (Some x) = idle_begins (name_at nodes x.node) x

all_are_strays : (nodes : List (List ℕ)) (l : Locals) (f : Findings) → IsStrays (strays_text nodes l f)
all_are_strays nodes l f = strays_on _ _ (all_strays (stray_text nodes l) f.askers.items (one_stray nodes l)) (all_strays (idle_text nodes l.senders) f.idle.items (one_idle nodes l.senders))

-- ---- room
room_begins : (n : ℕ) → IsRoom (room_line n)
unfolding room_line
room_begins n = inr (drop 6 (room_line n), refl)

a_room_text : (b : Bool) (n : ℕ) → IsRoom (room_text b n)
a_room_text true n = room_begins n
a_room_text false n = inl refl

-- ---- findings and demands
module _ (nodes names : List (List ℕ)) (net : Net) (l : Locals) (begun : List Begun) where
  pub said_unfit : (text : List ℕ) → IsFindingsText nodes names net l begun text → (DemandsFit net l → ⊥) → SaysAMisfit text
  said_unfit text t unfit =
      subst SaysAMisfit (sym t.text_is)
      (says_on (findings_text nodes names net.ends l t.found) (room_text t.fits (overhead net l))
      (says_on (misfits_text nodes names net.ends t.found) (strays_text nodes l t.found) (misfits_said nodes names net.ends t.found (λ none. unfit (t.none.0 none)))))

  pub fit_unsaid : (text : List ℕ) → IsFindingsText nodes names net l begun text → DemandsFit net l → SaysAMisfit text → ⊥
  fit_unsaid text t fit says =
      let nothing : misfits_text nodes names net.ends t.found ≡ [] = nothing_said nodes names net.ends t.found (t.none.1 fit) in
      strays_say_nothing (strays_text nodes l t.found) (room_text t.fits (overhead net l)) (all_are_strays nodes l t.found) (a_room_text t.fits (overhead net l))
      (subst SaysAMisfit (t.text_is ∙ ap (λ xs. (xs ++ strays_text nodes l t.found) ++ room_text t.fits (overhead net l)) nothing) says)

ends_no : (most : ℕ) → last_line most false ≡ (codes "longest " ++ decimal most) ++ codes " fits no\n"
unfolding last_line
ends_no most = append_assoc (codes "longest " ++ decimal most ++ codes " fits ") (codes "no") (codes "\n") ∙ append_assoc (codes "longest " ++ decimal most) (codes " fits ") (codes "no\n")

ends_yes : (most : ℕ) → last_line most true ≡ (codes "longest " ++ decimal most ++ codes " fits ye") ++ codes "s\n"
unfolding last_line
ends_yes most =
    append_assoc (codes "longest " ++ decimal most ++ codes " fits ") (codes "yes") (codes "\n") ∙ append_assoc (codes "longest " ++ decimal most) (codes " fits ") (codes "yes\n")
    ∙ sym (append_assoc (codes "longest " ++ decimal most) (codes " fits ye") (codes "s\n"))

module _ (names : List (List ℕ)) (net : Net) (l : Locals) (text : List ℕ) (d : IsDemandText names net l text) where
  ends_so : (b : Bool) → d.fits ≡ b → text ≡ demand_text names net l None ++ last_line (longest net) b
  ends_so b is = d.text_is ∙ ap (λ x. demand_text names net l None ++ last_line (longest net) x) is

  unfit_ends : d.fits ≡ false → EndsInFitsNo text
  unfit_ends is =
      let front = demand_text names net l None in
      (front ++ (codes "longest " ++ decimal (longest net)), ends_so false is ∙ ap (λ xs. front ++ xs) (ends_no (longest net)) ∙ sym (append_assoc front (codes "longest " ++ decimal (longest net)) (codes " fits no\n")))

  fit_ends : d.fits ≡ true → EndsInFitsNo text → ⊥
  fit_ends is says =
      let front = demand_text names net l None in
      let yes : text ≡ (front ++ (codes "longest " ++ decimal (longest net) ++ codes " fits ye")) ++ codes "s\n" = ends_so true is ∙ ap (λ xs. front ++ xs) (ends_yes (longest net)) ∙ sym (append_assoc front (codes "longest " ++ decimal (longest net) ++ codes " fits ye") (codes "s\n")) in
      let other : text ≡ (says.0 ++ codes " fits n") ++ codes "o\n" = says.1 ∙ sym (append_assoc says.0 (codes " fits n") (codes "o\n")) in
      let z : 115 ≡ 111 = one_before_last (front ++ (codes "longest " ++ decimal (longest net) ++ codes " fits ye")) (says.0 ++ codes " fits n") 115 10 111 10 (sym yes ∙ other) in
      absurd (omega (arith, z))

by_fits : (names nodes : List (List ℕ)) (net : Net) (l : Locals) (begun : List Begun) (findings demand : List ℕ) → IsFindingsText nodes names net l begun findings → (d : IsDemandText names net l demand) → (b : Bool) → d.fits ≡ b → SaysAMisfit findings ↔ EndsInFitsNo demand
by_fits names nodes net l begun findings demand f d true is = (
  λ says. absurd (fit_unsaid nodes names net l begun findings f (d.told.0 is) says),
  λ ends. absurd (fit_ends names net l demand d is ends),
)
by_fits names nodes net l begun findings demand f d false is = (
  λ says. unfit_ends names net l demand d is,
  λ ends. said_unfit nodes names net l begun findings f (λ fit. let z : false ≡ true = sym is ∙ d.told.1 fit in absurd (cc)),
)

pub a_misfit_is_said : AMisfitIsSaidWhereTheDemandDoesNotFit
a_misfit_is_said bytes findings demand f d =
    let same : d.lines ≡ f.lines = leads_one nothing (text_lines bytes) d.lines f.lines d.leads f.leads in
    let told : IsDemandText f.lines.names (routing f.lines) f.lines.locals demand = subst (λ (x : Draft). IsDemandText x.names (routing x) x.locals demand) same d.says in
    by_fits f.lines.names f.lines.nodes (routing f.lines) f.lines.locals (begun_by f.lines.events) findings demand f.says told told.fits refl
