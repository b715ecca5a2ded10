-- The rule in its parts.
use Rattle.std.specs.Prelude.{◌≡◌, Bool, true, false, not, ◌&&◌, List, [], ◌∷◌, ◌++◌, Option, Some, refl}
use Rattle.std.proofs.Common.{sym, ap, ◌∙◌}
use Rattle.std.specs.List.{cons_option, filter_map}
use Rattle.router_rules.specs.RsvpBase.declared.session.Session.{Session}
use Rattle.router_rules.specs.RsvpBase.declared.style.Unit.{Unit as UnitOf}
use Rattle.router_rules.specs.RsvpBase.Orders.{sessions, units}
use Rattle.router_rules.specs.RsvpBase.Sets.{Set}
use Rattle.router_rules.specs.RsvpBase.Table.{Table, changed, changed_rows, get, has}
use Rattle.router_rules.proofs.RsvpBase.Tables.{get-changed, got_changed, same_table, then_do}
use Rattle.router_rules.proofs.RsvpBase.UnderLaws.{get-under}
use Rattle.router_rules.specs.Toward.{Request, toward as merged_toward}
use Rattle.router_rules.specs.Act.{act}
use Rattle.router_rules.specs.Facts.{Facts, Want, WantKey, want_keys, resvs_in, wants_in}
use Rattle.router_rules.specs.Inputs.{Change}
use Rattle.router_rules.specs.Known.{Lane}
use Rattle.router_rules.specs.NodeConfig.{NodeConfig}
use Rattle.router_rules.specs.Requests.{resv_request, toward, want_request}
use Rattle.router_rules.specs.Rule.{is_silent, settled, spoken}
use Rattle.router_rules.specs.Sends.{unmarked, used_marks}
use Rattle.laws_bounds.specs.RuleLaws.{IsWant, RuleInParts}

-- a want with its mark as it is used
abbrev with_mark : Set want_keys → WantKey → Want → Want
with_mark used k w = record w { confirm = w.confirm && not (has used k) }

-- the wants of a session, marks used, are the session's wants with marks used
marked_in : (used : Set want_keys) (f : Facts) (s : Session) → wants_in (record f { wants = changed (unmarked used) f.wants }) s ≡ changed (λ u w. Some (with_mark used (s, u) w)) (wants_in f s)
marked_in used f s =
    same_table units _ _
    (λ u.
    get-under sessions units (changed (unmarked used) f.wants) s u ∙ get-changed want_keys (unmarked used) f.wants (s, u)
    ∙ ap (λ w. then_do w (unmarked used (s, u))) (sym (get-under sessions units f.wants s u)) ∙ sym (get-changed units (λ u w. Some (with_mark used (s, u) w)) (wants_in f s) u))

-- and they ask for the same
same_wants : (h : UnitOf × Want → Option Request) (g : UnitOf → Want → Want) → ((u : UnitOf) (w : Want) → h (u, g u w) ≡ h (u, w)) → (rows : List (UnitOf × Want))
    → filter_map h (changed_rows (λ u w. Some (g u w)) rows) ≡ filter_map h rows
same_wants h g same [] = refl
same_wants h g same (e ∷ es) = λ i. cons_option (same e.0 e.1 i) (same_wants h g same es i)

pub toward_unmarked : (p : NodeConfig) (f : Facts) (l : Lane) (used : Set want_keys) → toward p (record f { wants = changed (unmarked used) f.wants }) l ≡ toward p f l
toward_unmarked p f l used =
    ap (λ ws. merged_toward l.style (filter_map (resv_request p f l) (resvs_in l.style f l.session).rows ++ ws))
    (ap (λ (t : Table units Want). filter_map (want_request f l) t.rows) (marked_in used f l.session)
    ∙ same_wants (want_request f l) (λ u w. with_mark used (l.session, u) w) (λ u w. refl) (wants_in f l.session).rows)

module _ (old p : NodeConfig) (before after : Facts) (k : Change) where
  wants_of : (b : Bool) (key : WantKey) (x : Want) → get (spoken b old p before after k).facts.wants key ≡ Some x → (w : Want) × (get after.wants key ≡ Some w) × IsWant w x
  wants_of true key x e = (x, e, record { style = refl; part = refl })
  wants_of false key x e =
      let r = got_changed want_keys (unmarked (used_marks old p before after k.asked)) after.wants key x e in
      let same : ◌≡◌ {A = Want} (with_mark (used_marks old p before after k.asked) key r.0) x = cc in
      (r.0, r.1, record { style = ap (λ (w : Want). w.style) (sym same); part = ap (λ (w : Want). w.part) (sym same) })

  toward_of : (b : Bool) (l : Lane) → toward p (spoken b old p before after k).facts l ≡ toward p after l
  toward_of true l = refl
  toward_of false l = toward_unmarked p after l (used_marks old p before after k.asked)

pub rule_in_parts : RuleInParts
rule_in_parts =
    record {
      senders = λ old p c i f. refl;
      advertised = λ old p c i f. refl;
      paths = λ old p c i f. refl;
      walls = λ old p c i f. refl;
      resvs = λ old p c i f. refl;
      due = λ old p c i f. refl;
      wants = λ old p c i f key x. wants_of old p f (settled p c f (act p c i f).facts) (act p c i f) (is_silent i) key x;
      marks = λ old p c i f e. ap (λ b. (spoken b old p f (settled p c f (act p c i f).facts) (act p c i f)).facts.wants) e;
      quiet = λ old p c i f e. ap (λ b. (spoken b old p f (settled p c f (act p c i f).facts) (act p c i f)).facts.wants) e;
      heard = λ old p c i f. refl;
      loud = λ old p c i f e. ap (λ b. (spoken b old p f (settled p c f (act p c i f).facts) (act p c i f)).sent) e;
      silent = λ old p c i f e. ap (λ b. (spoken b old p f (settled p c f (act p c i f).facts) (act p c i f)).sent) e;
      toward_same = λ old p c i f l. toward_of old p f (settled p c f (act p c i f).facts) (act p c i f) (is_silent i) l;
    }
