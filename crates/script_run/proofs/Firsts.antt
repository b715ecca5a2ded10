-- Lines lead on to one draft, and no line leads past a bad one or one by which the run is crowded.
use Rattle.std.proofs.Common.{◌≡◌, ◌≢◌, ℕ, List, [], ◌∷◌, ◌++◌, true, false, refl, sym, ap, subst, ◌∙◌, inl, inr}
use Rattle.script_grammar.specs.Events.{Event, all_steps}
use Rattle.script_grammar.specs.Runs.{crowds, first_world, is_crowded_run}
use Rattle.script_grammar.specs.Draft.{Draft, nothing, plan_of}
use Rattle.script_grammar.specs.Grammar.{Follows, HasFault, Leads}
use Rattle.script_grammar.specs.declared.fault.Fault.{Fault}
use Rattle.script_grammar.specs.Adds.{Adds}
use Rattle.script_grammar.proofs.Happening.{adds_one_event, events_alone}
use Rattle.script_grammar.proofs.Scripts.{fault_or_follows, follows_one, leads_one}
use Rattle.script_run.specs.Playing.{IsCrowdedBy}
use Rattle.script_run.specs.Written.{IsRunSoFar}
use Rattle.script_run.proofs.Runs.{stays_crowded}

-- ---- crowded runs stay so
no_event_no_crowd : (d : Draft) → d.events ≡ [] → is_crowded_run (plan_of d) ≡ false
no_event_no_crowd d e = ap (λ (es : List Event). crowds (plan_of d).quarter (all_steps (plan_of d).quarter es (first_world (plan_of d))) (first_world (plan_of d))) e

some_events : (d : Draft) → is_crowded_run (plan_of d) ≡ true → d.events ≢ []
some_events d c e = let z : true ≡ false = sym c ∙ no_event_no_crowd d e in cc

crowded_on : (d : Draft) (text : List ℕ) (new : Draft) → Follows d text new → is_crowded_run (plan_of d) ≡ true → is_crowded_run (plan_of new) ≡ true
crowded_on d text new f c = elim (events_alone d f.said (some_events d c) f.valid) [
  | inl h ↦ (let one = adds_one_event d f.said new h f.adds in ap is_crowded_run one.plan ∙ stays_crowded (plan_of d) one.event c)
  | inr e ↦ (let same : new ≡ d = subst (λ l. Adds d l new) e f.adds in ap (λ (x : Draft). is_crowded_run (plan_of x)) same ∙ c)
]

crowded_along : (d : Draft) (texts : List (List ℕ)) (new : Draft) → Leads d texts new → is_crowded_run (plan_of d) ≡ true → is_crowded_run (plan_of new) ≡ true
crowded_along d [] new l c = ap (λ (x : Draft). is_crowded_run (plan_of x)) l ∙ c
crowded_along d (t ∷ ts) new l c = crowded_along l.0 ts new l.2 (crowded_on d t l.0 l.1 c)

-- ---- lines lead through a line
pub record GoesThrough (d : Draft) (before : List (List ℕ)) (text : List ℕ) (after : List (List ℕ)) (new : Draft) : Type 0 where
  pub mid : Draft
  pub leads : Leads d before mid
  pub next : Draft
  pub follows : Follows mid text next
  pub on : Leads next after new

goes_through : (d : Draft) (before : List (List ℕ)) (text : List ℕ) (after : List (List ℕ)) (new : Draft) → Leads d (before ++ text ∷ after) new → GoesThrough d before text after new
goes_through d [] text after new l = record { mid = d; leads = refl; next = l.0; follows = l.1; on = l.2 }
goes_through d (t ∷ ts) text after new l =
    let rest = goes_through l.0 ts text after new l.2 in
    record { mid = rest.mid; leads = (l.0, l.1, rest.leads); next = rest.next; follows = rest.follows; on = rest.on }

-- ---- a line at which a run ends
-- bad, or one by which the run is crowded
pub data Ends (d : Draft) (text : List ℕ) : Type 0 where
  bad : (why : Fault) → HasFault d text why → Ends d text
  crowded : IsCrowdedBy d text → Ends d text

pub no_way_past : (before : List (List ℕ)) (text : List ℕ) (after : List (List ℕ)) (d new : Draft) (said : List ℕ) → Leads nothing before d → Ends d text → Leads nothing (before ++ text ∷ after) new
    → IsRunSoFar new said → ⊥
no_way_past before text after d new said l (bad why h) all run =
    let g = goes_through nothing before text after new all in
    let same : g.mid ≡ d = leads_one nothing before g.mid d g.leads l in
    fault_or_follows d text why g.next h (subst (λ x. Follows x text g.next) same g.follows)
no_way_past before text after d new said l (crowded c) all run =
    let g = goes_through nothing before text after new all in
    let same : g.mid ≡ d = leads_one nothing before g.mid d g.leads l in
    let next : g.next ≡ c.new = follows_one d text g.next c.new (subst (λ x. Follows x text g.next) same g.follows) c.follows in
    let there : is_crowded_run (plan_of g.next) ≡ true = ap (λ (x : Draft). is_crowded_run (plan_of x)) next ∙ c.crowded in
    let z : true ≡ false = sym (crowded_along g.next after new g.on there) ∙ run.roomy in
    absurd (cc)
