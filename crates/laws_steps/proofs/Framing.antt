-- What a step leaves as it is.
use Rattle.std.specs.Prelude.{◌≡◌, ℕ, Bool, true, false, not, ◌&&◌, Option, Some, None, refl}
use Rattle.std.proofs.Common.{sym, ap, subst, ◌∙◌}
use Rattle.rsvp_base.specs.declared.session.Sender.{Sender}
use Rattle.rsvp_base.specs.declared.session.Session.{Session}
use Rattle.rsvp_base.specs.declared.style.StyleKind.{StyleKind}
use Rattle.rsvp_base.specs.declared.style.StyleKind.TheVariants.{Wild, Fixed, Shared}
use Rattle.rsvp_base.specs.Table.{changed, get, has}
use Rattle.rsvp_base.proofs.Tables.{get-changed, same_table, then_do}
use Rattle.laws_bounds.specs.RouterRules.Lines.{LineKey, line_keys}
use Rattle.laws_bounds.specs.RouterRules.Parts.{has_name}
use Rattle.laws_bounds.specs.RouterRules.Act.{act}
use Rattle.laws_bounds.specs.RouterRules.Bounds.{IsWithinBounds}
use Rattle.laws_bounds.specs.RouterRules.Facts.{Facts, Resvs, ResvState, resvs_of}
use Rattle.laws_bounds.specs.RouterRules.Forgetting.{forget, is_lost, remembered}
use Rattle.laws_bounds.specs.RouterRules.Inputs.{Input, Call, Wait, Clear, Came, Moved}
use Rattle.laws_bounds.specs.RouterRules.Known.{known, named_as}
use Rattle.laws_bounds.specs.RouterRules.NodeConfig.{NodeConfig}
use Rattle.laws_bounds.proofs.Leaving.{left_whole}
use Rattle.laws_bounds.specs.Frames.{AreSameButMarks, on_advertised, on_paths, on_resvs, on_senders, on_wants}
use Rattle.laws_steps.specs.FrameLaws.{CalmStepsKeepTheLocals, LeftAsItWas}
use Rattle.laws_bounds.specs.RouterRules.Steps.{facts_then, is_calm, left_by}
use Rattle.laws_bounds.proofs.Framing.{act_advertised, act_senders, act_wants, act_paths, act_resvs, act_walls, wants_then}

wants_left : (old p : NodeConfig) (c : ℕ) (i : Input) (f : Facts) → on_wants i ≡ false → AreSameButMarks f.wants (facts_then old p c i f).wants
wants_left old p c i f n = subst (λ t. AreSameButMarks t (facts_then old p c i f).wants) (act_wants p c i f n) (wants_then old p c i f)

-- ---- forgetting nobody
not_both : (a b : Bool) → a ≡ b → (a && not b) ≡ false
not_both true b e = ap not (sym e)
not_both false b e = refl

-- a table of reservations with names, where the same senders are known
forget_table : (st : StyleKind) (before after : Facts) (t : Resvs) → ((s : Session) → known before s ≡ known after s) → ((k : LineKey) (r : ResvState) → get t k ≡ Some r → has_name r.part ≡ true)
    → changed (remembered st before after) t ≡ t
forget_table st before after t same named = same_table line_keys _ _ (λ k. get-changed line_keys (remembered st before after) t k ∙ by k (get t k) refl)
  where
    nobody : (k : LineKey) (x : Sender) → is_lost st before after k.0 x ≡ false
    nobody k x = not_both _ _ (ap (λ names. has (named_as st names) x) (same k.0))

    by : (k : LineKey) (w : Option ResvState) → get t k ≡ w → then_do w (remembered st before after k) ≡ w
    by k None is = refl
    by k (Some r) is = left_whole (λ x. not (is_lost st before after k.0 x)) r (named k r is) (λ x h. ap not (nobody k x))

pub forget_nobody : (before after : Facts) → ((s : Session) → known before s ≡ known after s)
    → ((st : StyleKind) (k : LineKey) (r : ResvState) → get (resvs_of st after) k ≡ Some r → has_name r.part ≡ true)
    → (forget before after).resvs ≡ after.resvs
forget_nobody before after same named =
    let wild = forget_table Wild before after after.resvs.wild same (named Wild) in
    let fixed = forget_table Fixed before after after.resvs.fixed same (named Fixed) in
    let shared = forget_table Shared before after after.resvs.shared same (named Shared) in λ i. record { wild = wild i; fixed = fixed i; shared = shared i }

whole : (old p : NodeConfig) (b c : ℕ) (i : Input) (f : Facts) → IsWithinBounds old b f → on_resvs i ≡ false → on_senders i ≡ false → on_paths i ≡ false → (facts_then old p c i f).resvs ≡ f.resvs
whole old p b c i f within r s t =
    let from : (act p c i f).facts.resvs ≡ f.resvs = act_resvs p c i f r in
    let senders = sym (act_senders p c i f s) in
    let paths = sym (act_paths p c i f t) in
    forget_nobody f (act p c i f).facts (λ q j. known (record f { senders = senders j; paths = paths j }) q)
    (λ st k x e. (within.shapes.resvs st k x (ap (λ ts. get (resvs_of st (record f { resvs = ts })) k) (sym from) ∙ e)).style.named) ∙ from

pub left_as_it_was : LeftAsItWas
left_as_it_was =
    record {
      senders = λ step n. act_senders step.now step.after step.input step.facts n;
      advertised = λ step n. act_advertised step.now step.after step.input step.facts n;
      wants = λ step n. wants_left step.old step.now step.after step.input step.facts n;
      paths = λ step n. act_paths step.now step.after step.input step.facts n;
      walls = λ step n. act_walls step.now step.after step.input step.facts n;
      resvs = λ step n. ap (λ ts. (forget step.facts (record (left_by step) { resvs = ts })).resvs) (act_resvs step.now step.after step.input step.facts n);
      resvs_whole = λ step within r s t. whole step.old step.now step.before step.after step.input step.facts within r s t;
    }

calm_on : (i : Input) → is_calm i ≡ true → (on_senders i ≡ false) × ((on_advertised i ≡ false) × (on_wants i ≡ false))
calm_on (Call l) q = absurd (cc)
calm_on (Wait ms word) q = (refl, (refl, refl))
calm_on Clear q = absurd (cc)
calm_on (Came e dst a) q = (refl, (refl, refl))
calm_on Moved q = absurd (cc)

pub calm_steps_keep_the_locals : CalmStepsKeepTheLocals
calm_steps_keep_the_locals =
    record {
      senders = λ step within q. act_senders step.now step.after step.input step.facts (calm_on step.input q).0;
      advertised = λ step within q. act_advertised step.now step.after step.input step.facts (calm_on step.input q).1.0;
      wants = λ step within q. wants_left step.old step.now step.after step.input step.facts (calm_on step.input q).1.1;
    }
