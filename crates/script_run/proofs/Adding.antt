-- What a line changes of a run: nothing, or it adds one event.
use Rattle.std.proofs.Common.{◌≡◌, ◌≢◌, ◌⊎◌, ◌≤◌, Some, ℕ, List, [], ◌∷◌, ◌++◌, length, refl, sym, ap, subst, ◌∙◌, append-nil, arith, inl, inr, length-append}
use Rattle.script_grammar.specs.Events.{Event, all_steps}
use Rattle.script_grammar.specs.Runs.{Plan, crowds, first_world, text_of, uncrowded}
use Rattle.script_grammar.specs.Adds.{Adds}
use Rattle.script_grammar.specs.Draft.{Draft, plan_of}
use Rattle.script_grammar.specs.Grammar.{Follows, Happens}
use Rattle.script_grammar.specs.LineKinds.{script_line_of}
use Rattle.script_grammar.specs.declared.line.ScriptLine.{ScriptLine}
use Rattle.script_grammar.specs.declared.line.ScriptLine.TheVariants as line
use Rattle.script_grammar.proofs.Happening.{adds_one_event, events_alone}
use Rattle.script_run.specs.Playing.{IsRunOn}
use Rattle.script_run.specs.Written.{IsRunSoFar, with_event}

-- ---- events stay where nothing happens
keeps_events : (d : Draft) (said : ScriptLine) (new : Draft) → Adds d said new → Happens said ⊎ (new.events ≡ d.events)
keeps_events d line.Skipped new x = inr (ap (λ (y : Draft). y.events) x)
keeps_events d (line.Period ms) new x = inr (ap (λ (y : Draft). y.events) x)
keeps_events d (line.Seed n) new x = inr (ap (λ (y : Draft). y.events) x)
keeps_events d (line.Node name) new x = inr (ap (λ (y : Draft). y.events) x)
keeps_events d (line.End l) new x = inr (ap (λ (y : Draft). y.events) x)
keeps_events d (line.Latency l) new x = inr (ap (λ (y : Draft). y.events) x)
keeps_events d (line.Link names) new x = inr (ap (λ (y : Draft). y.events) x)
keeps_events d (line.Hop l) new x = inr (ap (λ (y : Draft). y.events) x)
keeps_events d (line.StalePath l) new x = inr (ap (λ (y : Draft). y.events) x)
keeps_events d (line.StaleResv l) new x = inr (ap (λ (y : Draft). y.events) x)
keeps_events d (line.StaleHopWall l) new x = inr (ap (λ (y : Draft). y.events) x)
keeps_events d (line.StaleSenderWall l) new x = inr (ap (λ (y : Draft). y.events) x)
keeps_events d (line.Send l) new x = inl tt
keeps_events d (line.Drop l) new x = inl tt
keeps_events d (line.Advert l) new x = inl tt
keeps_events d (line.Want l) new x = inl tt
keeps_events d (line.Quit l) new x = inl tt
keeps_events d (line.Wait ms) new x = inl tt
keeps_events d (line.Pass n) new x = inl tt
keeps_events d (line.Deliver k) new x = inl tt
keeps_events d (line.Lose k) new x = inl tt
keeps_events d (line.Copy k) new x = inl tt
keeps_events d (line.Clear node) new x = inl tt
keeps_events d (line.Rounds n) new x = inl tt
keeps_events d (line.Trace on) new x = inl tt
keeps_events d line.Report new x = inl tt
keeps_events d (line.ReportEnd end) new x = inl tt
keeps_events d line.Flags new x = inl tt
keeps_events d line.Adverts new x = inl tt
keeps_events d (line.Inject l) new x = inl tt
keeps_events d (line.Reroute l) new x = inl tt

pub not_longer : (es : List Event) (e : Event) → es ≡ es ++ e ∷ [] → ⊥
not_longer es e same = omega (arith, ap (λ (xs : List Event). length xs) same, length-append es (e ∷ []))

pub not_empty : (es : List Event) (e : Event) → es ++ e ∷ [] ≡ [] → ⊥
not_empty [] e none = cc
not_empty (x ∷ es) e none = cc

-- ---- a line that adds no event
-- leaves all as it was, or stands before all events
pub quiet_line : (d : Draft) (t : List ℕ) (new : Draft) → Follows d t new → new.events ≡ d.events → (new ≡ d) ⊎ ((d.events ≡ []) × (new.events ≡ []))
quiet_line d t new f same = by d.events refl
  where
    by : (es : List Event) → d.events ≡ es → (new ≡ d) ⊎ ((d.events ≡ []) × (new.events ≡ []))
    by [] e = inr (e, same ∙ e)
    by (x ∷ es) e =
        let some : d.events ≢ [] = λ z. let y : x ∷ es ≡ [] = sym e ∙ z in cc in
        elim (events_alone d f.said some f.valid) [
          | inl h ↦ (
              let one = adds_one_event d f.said new h f.adds in
              absurd (not_longer d.events one.event (sym same ∙ ap (λ (p : Plan). p.events) one.plan)))
          | inr s ↦ inl (subst (λ l. Adds d l new) s f.adds)
        ]

no_events : (d : Draft) → d.events ≡ [] → IsRunSoFar d []
no_events d e = record {
  roomy = ap (λ (es : List Event). crowds (plan_of d).quarter (all_steps (plan_of d).quarter es (first_world (plan_of d))) (first_world (plan_of d))) e;
  text_is = sym (ap (λ (es : List Event). text_of (plan_of d).quarter (plan_of d).names (uncrowded (plan_of d).quarter (all_steps (plan_of d).quarter es (first_world (plan_of d)))
      (first_world (plan_of d))) (first_world (plan_of d))) e);
}

-- it writes nothing
pub quiet_run : (d : Draft) (t : List ℕ) (new : Draft) (said : List ℕ) → Follows d t new → new.events ≡ d.events → IsRunSoFar d said → IsRunSoFar new (said ++ [])
quiet_run d t new said f same run = elim (quiet_line d t new f same) [
  | inl e ↦ subst (λ (s : List ℕ). IsRunSoFar new s) (sym (append-nil said)) (subst (λ (x : Draft). IsRunSoFar x said) (sym e) run)
  | inr e ↦ (
      let none : said ≡ [] = run.text_is ∙ sym (no_events d e.0).text_is in
      subst (λ (s : List ℕ). IsRunSoFar new s) (sym (append-nil said ∙ none)) (no_events new e.1))
]

-- ---- a line that adds one
pub same_end : (es : List Event) (a b : Event) → es ++ a ∷ [] ≡ es ++ b ∷ [] → a ≡ b
same_end [] a b e = cc
same_end (x ∷ es) a b e = same_end es a b (let tail : es ++ a ∷ [] ≡ es ++ b ∷ [] = cc in tail)

-- changes nothing else of the plan
pub event_line : (d : Draft) (t : List ℕ) (new : Draft) (e : Event) → Follows d t new → new.events ≡ d.events ++ e ∷ [] → plan_of new ≡ with_event (plan_of d) e
event_line d t new e f added = elim (keeps_events d f.said new f.adds) [
  | inl h ↦ (
      let one = adds_one_event d f.said new h f.adds in
      let same : one.event ≡ e = same_end d.events one.event e (sym (ap (λ (p : Plan). p.events) one.plan) ∙ added) in
      one.plan ∙ ap (with_event (plan_of d)) same)
  | inr s ↦ absurd (not_longer d.events e (sym s ∙ added))
]

-- ---- a line that is skipped
pub skipped_on : (stands : Draft → Type 0) (d : Draft) (t said : List ℕ) → length t ≤ 2048 → script_line_of t ≡ Some line.Skipped → stands d → IsRunSoFar d said → IsRunOn stands d t said []
skipped_on stands d t said short reads there run = record {
  new = d;
  follows = record {
    short = short;
    said = line.Skipped;
    reads = reads;
    valid = record {
      in_time = tt;
      in_range = tt;
      known = tt;
      new = tt;
      of_style = tt;
      within_limits = tt;
      of_tree = tt;
      within_capacity = tt;
      loop_free = tt;
    };
    adds = refl;
  };
  stands_there = there;
  run = subst (λ (s : List ℕ). IsRunSoFar d s) (sym (append-nil said)) run;
}
