-- Lines that ask for no memory: behind the first event, while the trace is off.
use Rattle.std.proofs.Common.{◌≡◌, ◌≢◌, ℕ, List, [], ◌∷◌, ◌++◌, Bool, true, false, Option, None, Some, length, refl, sym, ap, subst, ◌∙◌, arith, inl, inr, cond}
use Rattle.std.specs.Prelude.{codes}
use Rattle.std.specs.Str.{bytes_eq}
use Rattle.rsvp_base.specs.Members.{In}
use Rattle.script_words.specs.Numbers.{number_of}
use Rattle.script_words.specs.Steps.{◌>>=◌}
use Rattle.script_words.specs.Words.{words_of}
use Rattle.rsvp_base.specs.EndNames.{name_of}
use Rattle.script_grammar.specs.Adds.{Adds}
use Rattle.script_grammar.specs.Asking.{AsksMemory}
use Rattle.script_grammar.specs.Draft.{Draft, node_number, plan_of}
use Rattle.script_grammar.specs.Events.{Event, Waits, Pass, DeliverAt, LoseAt, CopyAt, ClearNode, Rounds}
use Rattle.script_grammar.specs.LineKinds.{clear_line, is_comment, lone_number, numbered, pass_line, said_at_node, said_by, said_in_flight, said_left_over, script_line_of}
use Rattle.script_grammar.specs.Reading.{HasList, IsOfList, TakesToRead, of_inject, of_link, of_reroute, of_stale_resv, of_want}
use Rattle.script_grammar.specs.Runs.{last_world}
use Rattle.script_grammar.specs.declared.line.ScriptLine.{ScriptLine}
use Rattle.script_grammar.specs.declared.line.ScriptLine.TheVariants as line
use Rattle.script_run.specs.Asking.{AsksToBeRun, asks_memory, to_be_taken, to_open, to_run}
use Rattle.script_run.specs.Laws.{IsFreeLine, free_words}
use Rattle.script_run.proofs.Adding.{not_longer, same_end}

-- ---- what such a line says
abbrev IsFree : ScriptLine → Type 0
IsFree line.Skipped = Unit {0}
IsFree (line.Wait ms) = Unit {0}
IsFree (line.Pass n) = Unit {0}
IsFree (line.Rounds n) = Unit {0}
IsFree (line.Deliver k) = Unit {0}
IsFree (line.Lose k) = Unit {0}
IsFree (line.Copy k) = Unit {0}
IsFree (line.Clear node) = Unit {0}
IsFree _ = ⊥

abbrev Good : Option ScriptLine → Type 0
Good None = Unit {0}
Good (Some l) = IsFree l

on_read : {A : Type 0} (m : Option A) (next : A → Option ScriptLine) → ((a : A) → Good (next a)) → Good (m >>= next)
on_read None next h = tt
on_read (Some a) next h = h a

numbered_good : (kind : ℕ → ScriptLine) → ((n : ℕ) → IsFree (kind n)) → (ws : List (List ℕ)) → Good (numbered kind ws)
numbered_good kind h ws = on_read (lone_number ws) (λ n. Some (kind n)) h

pass_good : (ws : List (List ℕ)) → Good (pass_line ws)
unfolding pass_line
pass_good [] = tt
pass_good (number ∷ []) = on_read (number_of number) _ (λ n. tt)
pass_good (number ∷ more ∷ words) = tt

clear_good : (ws : List (List ℕ)) → Good (clear_line ws)
unfolding clear_line
clear_good (node ∷ []) = on_read (name_of node) _ (λ n. tt)
clear_good _ = tt

free_said : (first : List ℕ) (behind : List (List ℕ)) → In first free_words → Good (said_by (first ∷ behind))
unfolding said_by said_left_over said_at_node said_in_flight
free_said first behind (inl e) = subst (λ (f : List ℕ). Good (said_by (f ∷ behind))) (sym e) (numbered_good line.Wait (λ n. tt) behind)
free_said first behind (inr (inl e)) = subst (λ (f : List ℕ). Good (said_by (f ∷ behind))) (sym e) (pass_good behind)
free_said first behind (inr (inr (inl e))) = subst (λ (f : List ℕ). Good (said_by (f ∷ behind))) (sym e) (numbered_good line.Rounds (λ n. tt) behind)
free_said first behind (inr (inr (inr (inl e)))) = subst (λ (f : List ℕ). Good (said_by (f ∷ behind))) (sym e) (numbered_good line.Deliver (λ n. tt) behind)
free_said first behind (inr (inr (inr (inr (inl e))))) = subst (λ (f : List ℕ). Good (said_by (f ∷ behind))) (sym e) (numbered_good line.Lose (λ n. tt) behind)
free_said first behind (inr (inr (inr (inr (inr (inl e)))))) = subst (λ (f : List ℕ). Good (said_by (f ∷ behind))) (sym e) (numbered_good line.Copy (λ n. tt) behind)
free_said first behind (inr (inr (inr (inr (inr (inr (inl e))))))) = subst (λ (f : List ℕ). Good (said_by (f ∷ behind))) (sym e) (clear_good behind)
free_said first behind (inr (inr (inr (inr (inr (inr (inr i))))))) = absurd i

-- ---- it is read without memory
no_list : (w : List ℕ) → bytes_eq w (codes "link") ≡ false → bytes_eq w (codes "stale-resv") ≡ false → bytes_eq w (codes "want") ≡ false → bytes_eq w (codes "inject") ≡ false
    → bytes_eq w (codes "reroute") ≡ false → IsOfList w → ⊥
no_list w a b c d e (of_link h) = let z : false ≡ true = sym a ∙ h in cc
no_list w a b c d e (of_stale_resv h) = let z : false ≡ true = sym b ∙ h in cc
no_list w a b c d e (of_want h) = let z : false ≡ true = sym c ∙ h in cc
no_list w a b c d e (of_inject h) = let z : false ≡ true = sym d ∙ h in cc
no_list w a b c d e (of_reroute h) = let z : false ≡ true = sym e ∙ h in cc

free_lists_none : (first : List ℕ) → In first free_words → IsOfList first → ⊥
free_lists_none first (inl e) l = no_list (codes "wait") refl refl refl refl refl (subst IsOfList e l)
free_lists_none first (inr (inl e)) l = no_list (codes "pass") refl refl refl refl refl (subst IsOfList e l)
free_lists_none first (inr (inr (inl e))) l = no_list (codes "rounds") refl refl refl refl refl (subst IsOfList e l)
free_lists_none first (inr (inr (inr (inl e)))) l = no_list (codes "deliver") refl refl refl refl refl (subst IsOfList e l)
free_lists_none first (inr (inr (inr (inr (inl e))))) l = no_list (codes "lose") refl refl refl refl refl (subst IsOfList e l)
free_lists_none first (inr (inr (inr (inr (inr (inl e)))))) l = no_list (codes "copy") refl refl refl refl refl (subst IsOfList e l)
free_lists_none first (inr (inr (inr (inr (inr (inr (inl e))))))) l = no_list (codes "clear") refl refl refl refl refl (subst IsOfList e l)
free_lists_none first (inr (inr (inr (inr (inr (inr (inr i))))))) l = absurd i

reads_free : (text : List ℕ) → IsFreeLine text → TakesToRead text → ⊥
reads_free text c t = elim t.takes [
  | inl l ↦ free_lists_none c.first c.free (subst HasList c.words l)
  | inr many ↦ (let size : length (words_of text) ≡ length (c.first ∷ c.behind) = ap length c.words in let few = c.few in omega (arith, size, few, many))
]

-- ---- it is added without memory
adds_free : (d : Draft) (said : ScriptLine) → IsFree said → AsksMemory d said → ⊥
adds_free d line.Skipped h asks = absurd asks
adds_free d (line.Wait ms) h asks = absurd asks
adds_free d (line.Pass n) h asks = absurd asks
adds_free d (line.Rounds n) h asks = absurd asks
adds_free d (line.Deliver k) h asks = absurd asks
adds_free d (line.Lose k) h asks = absurd asks
adds_free d (line.Copy k) h asks = absurd asks
adds_free d (line.Clear node) h asks = absurd asks
adds_free d (line.Period ms) h asks = absurd h
adds_free d (line.Seed n) h asks = absurd h
adds_free d (line.Node name) h asks = absurd h
adds_free d (line.End l) h asks = absurd h
adds_free d (line.Latency l) h asks = absurd h
adds_free d (line.Link names) h asks = absurd h
adds_free d (line.Hop l) h asks = absurd h
adds_free d (line.StalePath l) h asks = absurd h
adds_free d (line.StaleResv l) h asks = absurd h
adds_free d (line.StaleHopWall l) h asks = absurd h
adds_free d (line.StaleSenderWall l) h asks = absurd h
adds_free d (line.Send l) h asks = absurd h
adds_free d (line.Drop l) h asks = absurd h
adds_free d (line.Advert l) h asks = absurd h
adds_free d (line.Want l) h asks = absurd h
adds_free d (line.Quit l) h asks = absurd h
adds_free d (line.Trace on) h asks = absurd h
adds_free d line.Report h asks = absurd h
adds_free d (line.ReportEnd end) h asks = absurd h
adds_free d line.Flags h asks = absurd h
adds_free d line.Adverts h asks = absurd h
adds_free d (line.Inject l) h asks = absurd h
adds_free d (line.Reroute l) h asks = absurd h

-- ---- its event is run without memory
one_event : (d new : Draft) (x e : Event) → new.events ≡ d.events ++ x ∷ [] → new.events ≡ d.events ++ e ∷ [] → x ≡ e
one_event d new x e a b = same_end d.events x e (sym a ∙ b)

runs_free : (d : Draft) (said : ScriptLine) (new : Draft) (e : Event) → IsFree said → Adds d said new → new.events ≡ d.events ++ e ∷ [] → asks_memory (plan_of d) e ≡ true
    → (last_world (plan_of d)).trace ≡ true
runs_free d line.Skipped new e h x added asks = absurd (not_longer d.events e (sym (ap (λ (y : Draft). y.events) x) ∙ added))
runs_free d (line.Wait ms) new e h x added asks = ap (asks_memory (plan_of d)) (one_event d new (Waits ms) e (ap (λ (y : Draft). y.events) x) added) ∙ asks
runs_free d (line.Pass n) new e h x added asks = ap (asks_memory (plan_of d)) (one_event d new (Pass n) e (ap (λ (y : Draft). y.events) x) added) ∙ asks
runs_free d (line.Rounds n) new e h x added asks = ap (asks_memory (plan_of d)) (one_event d new (Rounds n) e (ap (λ (y : Draft). y.events) x) added) ∙ asks
runs_free d (line.Deliver k) new e h x added asks = ap (asks_memory (plan_of d)) (one_event d new (DeliverAt k) e (ap (λ (y : Draft). y.events) x) added) ∙ asks
runs_free d (line.Lose k) new e h x added asks = ap (asks_memory (plan_of d)) (one_event d new (LoseAt k) e (ap (λ (y : Draft). y.events) x) added) ∙ asks
runs_free d (line.Copy k) new e h x added asks = ap (asks_memory (plan_of d)) (one_event d new (CopyAt k) e (ap (λ (y : Draft). y.events) x) added) ∙ asks
runs_free d (line.Clear node) new e h x added asks = ap (asks_memory (plan_of d)) (one_event d new (ClearNode (node_number d node)) e (ap (λ (y : Draft). y.events) x) added) ∙ asks
runs_free d (line.Period ms) new e h x added asks = absurd h
runs_free d (line.Seed n) new e h x added asks = absurd h
runs_free d (line.Node name) new e h x added asks = absurd h
runs_free d (line.End l) new e h x added asks = absurd h
runs_free d (line.Latency l) new e h x added asks = absurd h
runs_free d (line.Link names) new e h x added asks = absurd h
runs_free d (line.Hop l) new e h x added asks = absurd h
runs_free d (line.StalePath l) new e h x added asks = absurd h
runs_free d (line.StaleResv l) new e h x added asks = absurd h
runs_free d (line.StaleHopWall l) new e h x added asks = absurd h
runs_free d (line.StaleSenderWall l) new e h x added asks = absurd h
runs_free d (line.Send l) new e h x added asks = absurd h
runs_free d (line.Drop l) new e h x added asks = absurd h
runs_free d (line.Advert l) new e h x added asks = absurd h
runs_free d (line.Want l) new e h x added asks = absurd h
runs_free d (line.Quit l) new e h x added asks = absurd h
runs_free d (line.Trace on) new e h x added asks = absurd h
runs_free d line.Report new e h x added asks = absurd h
runs_free d (line.ReportEnd end) new e h x added asks = absurd h
runs_free d line.Flags new e h x added asks = absurd h
runs_free d line.Adverts new e h x added asks = absurd h
runs_free d (line.Inject l) new e h x added asks = absurd h
runs_free d (line.Reroute l) new e h x added asks = absurd h

-- ---- all together
said_free : (text : List ℕ) (said : ScriptLine) → IsFreeLine text → script_line_of text ≡ Some said → IsFree said
said_free text said c reads = subst Good reads (by (is_comment text))
  where
    by : (b : Bool) → Good (cond b (Some line.Skipped) (said_by (words_of text)))
    by true = tt
    by false = subst (λ (ws : List (List ℕ)). Good (said_by ws)) (sym c.words) (free_said c.first c.behind c.free)

pub free_lines_ask_for_no_memory : (d : Draft) (text : List ℕ) → IsFreeLine text → d.events ≢ [] → (last_world (plan_of d)).trace ≡ false → AsksToBeRun d text → ⊥
free_lines_ask_for_no_memory d text c some off (to_be_taken (inl t)) = reads_free text c t
free_lines_ask_for_no_memory d text c some off (to_be_taken (inr a)) = adds_free d a.said (said_free text a.said c a.reads) a.asks
free_lines_ask_for_no_memory d text c some off (to_open new f none first) = some none
free_lines_ask_for_no_memory d text c some off (to_run new e f added asks) =
    let on = runs_free d f.said new e (said_free text f.said c f.reads) f.adds added asks in
    let z : false ≡ true = sym off ∙ on in
    cc
