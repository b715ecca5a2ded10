-- Local senders and wants stay within bounds.
use Rattle.std.specs.Prelude.{◌≡◌, ℕ, ◌≤◌, ◌<◌, ◌⊎◌, Bool, true, false, not, Option, Some, None, refl}
use Rattle.std.proofs.Common.{sym, ap, subst, ◌∙◌, inl, inr, ⊎_elim, arith}
use Rattle.std.specs.List.{list_any}
use Rattle.rsvp_base.specs.declared.part.Part.{Part}
use Rattle.rsvp_base.specs.declared.session.Sender.{Sender}
use Rattle.rsvp_base.specs.declared.session.Session.{Session}
use Rattle.rsvp_base.specs.declared.style.StyleKind.{StyleKind}
use Rattle.rsvp_base.specs.declared.style.StyleKind.TheVariants.{Wild, Fixed, Shared}
use Rattle.rsvp_base.specs.declared.style.Unit.{Unit as UnitOf}
use Rattle.rsvp_base.specs.declared.style.Unit.TheVariants.{One, Of}
use Rattle.rsvp_base.specs.Members.{In}
use Rattle.rsvp_base.specs.Orders.{Names, senders, sessions, units}
use Rattle.rsvp_base.specs.SessionLimits.{IsWithinSessionLimits, has_room_at}
use Rattle.rsvp_base.specs.Table.{empty, get, keys, kept, put_in, size, values, with_rows, without}
use Rattle.rsvp_base.specs.TokenBucket.{TokenBucket, IsSound}
use Rattle.rsvp_base.proofs.Members.{any_in, in_each}
use Rattle.rsvp_base.proofs.SessionRoom.{fewer_within, put_room}
use Rattle.rsvp_base.proofs.Tables.{either, got_kept, got_put_in, got_without}
use Rattle.rsvp_base.proofs.UnderLaws.{get-under}
use Rattle.rsvp_messages.specs.Units.{only}
use Rattle.style_rules.specs.CutLaws.{name_some}
use Rattle.style_rules.specs.Parts.{has_name}
use Rattle.style_rules.proofs.StyleLaws.{fixed_parts, shared_parts}
use Rattle.router_rules.specs.Act.{act}
use Rattle.router_rules.specs.Bounds.{IsWantShape, IsWantShaped}
use Rattle.router_rules.specs.Calls.{SendersOf, call_refusal, needs, unless, wanted}
use Rattle.router_rules.specs.Facts.{Facts, SenderKey, Want, WantKey, Wants, sender_keys, want_keys, wants_in}
use Rattle.router_rules.specs.Inputs.{Input, Call, Wait, Clear, Came, Moved, SendAs, DropAs, AdvertAs, WantAs, QuitAll}
use Rattle.router_rules.specs.NodeConfig.{NodeConfig, is_own, is_session}
use Rattle.router_rules.specs.Requests.{is_style}
use Rattle.laws_bounds.proofs.Lists.{got_with_rows, to_values}
use Rattle.laws_bounds.proofs.Rooms.{room_tells}
use Rattle.laws_bounds.proofs.Tests.{style_told}
use Rattle.laws_bounds.specs.Frames.{AreSameButMarks}
use Rattle.laws_bounds.proofs.Framing.{act_senders, act_wants}
use Rattle.router_rules.specs.Steps.{IsFit, IsFitList}
use Rattle.laws_bounds.proofs.Keeping.{fewer_rows}

-- ---- a call that is refused changes nothing
unless_by : {E X : Type 0} (P : X → Type 0) (w : Option E) (new old : X) → (w ≡ None → P new) → P old → P (unless w new old)
unless_by P None new old h g = h refl
unless_by P (Some e) new old h g = g

needs_told : {E : Type 0} (b : Bool) (e : E) (later : Option E) → needs b e later ≡ None → (b ≡ true) × (later ≡ None)
needs_told true e later h = (refl, h)
needs_told false e later h = absurd (cc)

-- ---- senders
abbrev AllSound : SendersOf → Type 0
AllSound t = (k : SenderKey) (tspec : TokenBucket) → get t k ≡ Some tspec → IsSound tspec

senders_sound : (p : NodeConfig) (c : ℕ) (i : Input) (f : Facts) → IsFit p i → AllSound f.senders → AllSound (act p c i f).facts.senders
senders_sound p c (Call (SendAs s x tspec)) f fit w =
    unless_by AllSound (call_refusal p (SendAs s x tspec) f) (put_in f.senders (s, x) tspec) f.senders
    (λ n k t e. ⊎_elim (λ (new : (k ≡ (s, x)) × (t ≡ tspec)). subst IsSound (sym new.1) fit) (λ (old : get f.senders k ≡ Some t). w k t old) (got_put_in sender_keys f.senders (s, x) tspec k t e))
    w
senders_sound p c (Call (DropAs s x)) f fit w =
    unless_by AllSound (call_refusal p (DropAs s x) f) (without f.senders (s, x)) f.senders (λ n k t e. w k t (got_without sender_keys f.senders (s, x) k t e)) w
senders_sound p c (Call (AdvertAs s x)) f fit w = subst AllSound (sym (act_senders p c (Call (AdvertAs s x)) f refl)) w
senders_sound p c (Call (WantAs s st names flow mark)) f fit w = subst AllSound (sym (act_senders p c (Call (WantAs s st names flow mark)) f refl)) w
senders_sound p c (Call (QuitAll s)) f fit w = subst AllSound (sym (act_senders p c (Call (QuitAll s)) f refl)) w
senders_sound p c (Wait ms word) f fit w = w
senders_sound p c Clear f fit w = w
senders_sound p c Moved f fit w = w
senders_sound p c (Came e dst a) f fit w = subst AllSound (sym (act_senders p c (Came e dst a) f refl)) w

senders_within : (p : NodeConfig) (c : ℕ) (i : Input) (f : Facts) → IsWithinSessionLimits senders f.senders → IsWithinSessionLimits senders (act p c i f).facts.senders
senders_within p c (Call (SendAs s x tspec)) f w =
    unless_by (IsWithinSessionLimits senders) (call_refusal p (SendAs s x tspec) f) (put_in f.senders (s, x) tspec) f.senders
    (λ n.
    let mine = needs_told (is_own p x.addr) _ _ n in
    let room = needs_told (has_room_at senders (put_in f.senders (s, x) tspec) s) _ None mine.1 in
    (put_room senders f.senders (s, x) tspec w).0 room.0)
    w
senders_within p c (Call (DropAs s x)) f w =
    unless_by (IsWithinSessionLimits senders) (call_refusal p (DropAs s x) f) (without f.senders (s, x)) f.senders
    (λ n. fewer_rows senders f.senders (without f.senders (s, x)) (λ k t e. got_without sender_keys f.senders (s, x) k t e) w)
    w
senders_within p c (Call (AdvertAs s x)) f w = subst (IsWithinSessionLimits senders) (sym (act_senders p c (Call (AdvertAs s x)) f refl)) w
senders_within p c (Call (WantAs s st names flow mark)) f w = subst (IsWithinSessionLimits senders) (sym (act_senders p c (Call (WantAs s st names flow mark)) f refl)) w
senders_within p c (Call (QuitAll s)) f w = subst (IsWithinSessionLimits senders) (sym (act_senders p c (Call (QuitAll s)) f refl)) w
senders_within p c (Wait ms word) f w = w
senders_within p c Clear f w = w
senders_within p c Moved f w = w
senders_within p c (Came e dst a) f w = subst (IsWithinSessionLimits senders) (sym (act_senders p c (Came e dst a) f refl)) w

pub record AreSendersWithin (t : SendersOf) : Type 0 where
  pub sound : (k : SenderKey) (tspec : TokenBucket) → get t k ≡ Some tspec → IsSound tspec
  pub limits : IsWithinSessionLimits senders t

pub senders_keep : (p : NodeConfig) (c : ℕ) (i : Input) (f : Facts) → IsFit p i → AreSendersWithin f.senders → AreSendersWithin (act p c i f).facts.senders
senders_keep p c i f fit w = record { sound = senders_sound p c i f fit w.sound; limits = senders_within p c i f w.limits }

-- ---- wants
pub record AreWantsWithin (t : Wants) : Type 0 where
  pub shaped : (k : WantKey) (w : Want) → get t k ≡ Some w → IsWantShaped k w
  pub one_style : (s : Session) (u v : UnitOf) (a b : Want) → get t (s, u) ≡ Some a → get t (s, v) ≡ Some b → a.style ≡ b.style
  pub limits : IsWithinSessionLimits units t

-- what a call wants: of its session and style
record IsWanted (s : Session) (st : StyleKind) (k : WantKey) (w : Want) : Type 0 where
  session : k.0 ≡ s
  style : w.style ≡ st
  shaped : IsWantShaped k w

shared_want : (s : Session) (names : Names) (flow : TokenBucket) (mark : Bool) → 0 < size names → size names ≤ 16 → IsSound flow
    → IsWantShaped (s, One) (record { style = Shared; part = record { senders = names; flow = flow }; confirm = mark })
shared_want s names flow mark some few sound =
    let part : Part = record { senders = names; flow = flow } in
    let named : has_name part ≡ true = ap not (name_some names some) in
    record { shape = ((shared_parts part).1 named, refl); names = few; flow = sound }

wanted_shape : (s : Session) (st : StyleKind) (names : Names) (flow : TokenBucket) (mark : Bool) (k : WantKey) (w : Want) → IsFitList st names → IsSound flow → In (k, w) (wanted s st names flow mark)
    → IsWanted s st k w
wanted_shape s Wild names flow mark k w fit sound i =
    let made : Want = record { style = Wild; part = record { senders = empty; flow = flow }; confirm = mark } in
    ⊎_elim
    (λ (is : (k, w) ≡ ((s, One), made)).
    subst (λ (z : WantKey × Want). IsWanted s Wild z.0 z.1) (sym is)
    (record { session = refl; style = refl; shaped = record { shape = (refl, refl); names = omega arith; flow = sound } }))
    (λ (n : ⊥). absurd n)
    i
wanted_shape s Fixed names flow mark k w fit sound i =
    let r = in_each (λ (x : Sender). ((s, Of x), record { style = Fixed; part = record { senders = only x; flow = flow }; confirm = mark })) (k, w) (keys names) i in
    let part : Part = record { senders = only r.0; flow = flow } in
    subst (λ (z : WantKey × Want). IsWanted s Fixed z.0 z.1) (sym r.2)
    (record { session = refl; style = refl; shaped = record { shape = ((fixed_parts part).1 refl, refl); names = omega arith; flow = sound } })
wanted_shape s Shared names flow mark k w fit sound i =
    let made : Want = record { style = Shared; part = record { senders = names; flow = flow }; confirm = mark } in
    ⊎_elim
    (λ (is : (k, w) ≡ ((s, One), made)).
    subst (λ (z : WantKey × Want). IsWanted s Shared z.0 z.1) (sym is) (record { session = refl; style = refl; shaped = shared_want s names flow mark fit.0 fit.1 sound }))
    (λ (n : ⊥). absurd n)
    i

-- the session's wants have the style, where the call is not refused for it
style_there : (f : Facts) (s : Session) (st : StyleKind) → not (list_any (λ (w : Want). not (is_style w.style st)) (values (wants_in f s))) ≡ true → (u : UnitOf) (w : Want)
    → get f.wants (s, u) ≡ Some w → w.style ≡ st
style_there f s st n u w e =
    either (is_style w.style st) (λ yes. style_told w.style st yes)
    (λ no.
    let there : list_any (λ (w : Want). not (is_style w.style st)) (values (wants_in f s)) ≡ true =
    any_in (λ (w : Want). not (is_style w.style st)) w (values (wants_in f s)) (to_values units (wants_in f s) u w (get-under sessions units f.wants s u ∙ e)) (ap not no) in
    let z = sym (ap not there) ∙ n in absurd (cc))

module _ (p : NodeConfig) (f : Facts) (s : Session) (st : StyleKind) (names : Names) (flow : TokenBucket) (mark : Bool) (list : IsFitList st names) (sound : IsSound flow) (w : AreWantsWithin f.wants)
    (style : not (list_any (λ (w : Want). not (is_style w.style st)) (values (wants_in f s))) ≡ true) (room : has_room_at units (with_rows f.wants (wanted s st names flow mark)) s ≡ true) where
  abbrev wants_now : Wants
  wants_now = with_rows f.wants (wanted s st names flow mark)

  source : (k : WantKey) (x : Want) → get wants_now k ≡ Some x → (get f.wants k ≡ Some x) ⊎ IsWanted s st k x
  source k x e = ⊎_elim (λ (old : get f.wants k ≡ Some x). inl old) (λ (i : In (k, x) (wanted s st names flow mark)). inr (wanted_shape s st names flow mark k x list sound i))
      (got_with_rows want_keys (wanted s st names flow mark) f.wants k x e)

  -- one that was there has the style where another of its session is of the call
  of_style : (q : Session) (u : UnitOf) (x : Want) → q ≡ s → get f.wants (q, u) ≡ Some x → x.style ≡ st
  of_style q u x is e = style_there f s st style u x (ap (λ (z : Session). get f.wants (z, u)) (sym is) ∙ e)

  wanted_within : AreWantsWithin wants_now
  wanted_within =
      record {
        shaped = λ k x e. ⊎_elim (λ (old : get f.wants k ≡ Some x). w.shaped k x old) (λ (new : IsWanted s st k x). new.shaped) (source k x e);
        one_style = λ q u v a b e g.
            ⊎_elim
            (λ (old_a : get f.wants (q, u) ≡ Some a).
            ⊎_elim (λ (old_b : get f.wants (q, v) ≡ Some b). w.one_style q u v a b old_a old_b) (λ (new_b : IsWanted s st (q, v) b). of_style q u a new_b.session old_a ∙ sym new_b.style)
            (source (q, v) b g))
            (λ (new_a : IsWanted s st (q, u) a).
            ⊎_elim (λ (old_b : get f.wants (q, v) ≡ Some b). new_a.style ∙ sym (of_style q v b new_a.session old_b)) (λ (new_b : IsWanted s st (q, v) b). new_a.style ∙ sym new_b.style)
            (source (q, v) b g))
            (source (q, u) a e);
        limits = (room_tells.of_wants f s st names flow mark w.limits).0 room;
      }

-- fewer wants
fewer_wants : (t n : Wants) → ((k : WantKey) (x : Want) → get n k ≡ Some x → get t k ≡ Some x) → AreWantsWithin t → AreWantsWithin n
fewer_wants t n less w =
    record {
      shaped = λ k x e. w.shaped k x (less k x e);
      one_style = λ s u v a b e g. w.one_style s u v a b (less (s, u) a e) (less (s, v) b g);
      limits = fewer_rows units t n less w.limits;
    }

act_wants_keep : (p : NodeConfig) (c : ℕ) (i : Input) (f : Facts) → IsFit p i → AreWantsWithin f.wants → AreWantsWithin (act p c i f).facts.wants
act_wants_keep p c (Call (WantAs s st names flow mark)) f fit w =
    unless_by AreWantsWithin (call_refusal p (WantAs s st names flow mark) f) (with_rows f.wants (wanted s st names flow mark)) f.wants
    (λ n.
    let style = needs_told (not (list_any (λ (w : Want). not (is_style w.style st)) (values (wants_in f s)))) _ _ n in
    let room = needs_told (has_room_at units (with_rows f.wants (wanted s st names flow mark)) s) _ None style.1 in
    wanted_within p f s st names flow mark fit.0 fit.1 w style.0 room.0)
    w
act_wants_keep p c (Call (QuitAll s)) f fit w =
    unless_by AreWantsWithin (call_refusal p (QuitAll s) f) (kept (λ k. not (is_session k.0 s)) f.wants) f.wants
    (λ n. fewer_wants f.wants (kept (λ k. not (is_session k.0 s)) f.wants) (λ k x e. (got_kept want_keys (λ k. not (is_session k.0 s)) f.wants k x e).1) w) w
act_wants_keep p c (Call (SendAs s x tspec)) f fit w = subst AreWantsWithin (sym (act_wants p c (Call (SendAs s x tspec)) f refl)) w
act_wants_keep p c (Call (DropAs s x)) f fit w = subst AreWantsWithin (sym (act_wants p c (Call (DropAs s x)) f refl)) w
act_wants_keep p c (Call (AdvertAs s x)) f fit w = subst AreWantsWithin (sym (act_wants p c (Call (AdvertAs s x)) f refl)) w
act_wants_keep p c (Wait ms word) f fit w = w
act_wants_keep p c Clear f fit w = w
act_wants_keep p c Moved f fit w = w
act_wants_keep p c (Came e dst a) f fit w = subst AreWantsWithin (sym (act_wants p c (Came e dst a) f refl)) w

-- marks do not matter
shape_as : (k : WantKey) (w x : Want) → x.style ≡ w.style → x.part ≡ w.part → IsWantShaped k w → IsWantShaped k x
shape_as k w x style part h =
    record {
      shape = subst (λ (z : StyleKind × Part). IsWantShape z.0 k.1 z.1) (λ j. (sym style j, sym part j)) h.shape;
      names = subst (λ (z : Part). size z.senders ≤ 16) (sym part) h.names;
      flow = subst (λ (z : Part). IsSound z.flow) (sym part) h.flow;
    }

pub marks_keep : (t n : Wants) → AreSameButMarks t n → AreWantsWithin t → AreWantsWithin n
marks_keep t n same w =
    record {
      shaped = λ k x e. let r = same.source k x e in shape_as k r.0 x r.2.style r.2.part (w.shaped k r.0 r.1);
      one_style = λ s u v a b e g.
          let x = same.source (s, u) a e in let y = same.source (s, v) b g in x.2.style ∙ w.one_style s u v x.0 y.0 x.1 y.1 ∙ sym y.2.style;
      limits = fewer_within units t n (λ k h. sym (same.there k) ∙ h) w.limits;
    }

pub wants_keep : (p : NodeConfig) (c : ℕ) (i : Input) (f : Facts) → IsFit p i → AreWantsWithin f.wants → AreWantsWithin (act p c i f).facts.wants
wants_keep p c i f fit w = act_wants_keep p c i f fit w
