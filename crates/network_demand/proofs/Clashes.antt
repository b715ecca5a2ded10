-- Sessions that are wanted in two styles, one want after the other.
use Rattle.std.specs.Prelude.{◌≡◌, ◌↔◌, ◌⊎◌, ℕ, ◌+◌, ◌<◌, Bool, true, false, List, [], ◌∷◌, ◌++◌, length, Result, Ok, Err, OnOk, take, refl, slice_index_or}
use Rattle.std.proofs.Common.{sym, ap, subst, ◌∙◌, inl, inr, ⊎_elim}
use Rattle.rsvp_base.proofs.Members.{in_append, in_left, in_right}
use Rattle.rsvp_base.specs.Members.{In}
use Rattle.rsvp_base.specs.declared.room.NoMemory.{NoMemory}
use Rattle.rsvp_base.specs.declared.session.Session.{Session}
use Rattle.network_demand.proofs.Pools.{take_more}
use Rattle.tree_model.specs.declared.locals.LocalWant.{LocalWant}
use Rattle.network_demand.specs.Misfits.{Differs, HasTwoStyles}

-- among these wants is one of the session, which another one of all wants has in another style
pub record IsFoundBy (ws some : List LocalWant) (s : Session) : Type 0 where
  pub one : LocalWant
  pub wanted : In one some
  pub of_it : one.session ≡ s
  pub differs : Differs ws one

pub found_more : (ws some : List LocalWant) (w : LocalWant) (differs : Bool) (old new : List Session) → (differs ≡ true) ↔ Differs ws w
    → ((s : Session) → In s old ↔ IsFoundBy ws some s) → ((s : Session) → In s new ↔ (In s old ⊎ ((differs ≡ true) × (s ≡ w.session))))
    → (s : Session) → In s new ↔ IsFoundBy ws (some ++ w ∷ []) s
found_more ws some w differs old new told before more s = (forth, back)
  where
    forth : In s new → IsFoundBy ws (some ++ w ∷ []) s
    forth i = ⊎_elim
        (λ (j : In s old). let h = (before s).0 j in record { one = h.one; wanted = in_left h.one some (w ∷ []) h.wanted; of_it = h.of_it; differs = h.differs })
        (λ (h : (differs ≡ true) × (s ≡ w.session)). record { one = w; wanted = in_right w some (w ∷ []) (inl refl); of_it = sym h.1; differs = told.0 h.0 })
        ((more s).0 i)

    back : IsFoundBy ws (some ++ w ∷ []) s → In s new
    back h = (more s).1 (⊎_elim
        (λ (j : In h.one some). inl ((before s).1 (record { one = h.one; wanted = j; of_it = h.of_it; differs = h.differs })))
        (λ (j : In h.one (w ∷ [])). ⊎_elim
        (λ (e : h.one ≡ w). inr (told.1 (subst (Differs ws) e h.differs), sym h.of_it ∙ ap (λ (x : LocalWant). x.session) e))
        (λ (n : ⊥). absurd n) j)
        (in_append h.one some (w ∷ []) h.wanted))

pub found_next : (ws : List LocalWant) (i : ℕ) (w : LocalWant) (differs : Bool) (old new : List Session) → i < length ws → w ≡ slice_index_or ws i w → (differs ≡ true) ↔ Differs ws w
    → ((s : Session) → In s old ↔ IsFoundBy ws (take i ws) s) → ((s : Session) → In s new ↔ (In s old ⊎ ((differs ≡ true) × (s ≡ w.session))))
    → (s : Session) → In s new ↔ IsFoundBy ws (take (i + 1) ws) s
found_next ws i w differs old new lt is told before more s =
    subst (λ (some : List LocalWant). In s new ↔ IsFoundBy ws some s) (sym (take_more ws i w w lt is)) (found_more ws (take i ws) w differs old new told before more s)

pub found_all : (ws : List LocalWant) (found : List Session) → ((s : Session) → In s found ↔ IsFoundBy ws ws s) → (s : Session) → In s found ↔ HasTwoStyles ws s
found_all ws found all s = (
  λ i. let h = (all s).0 i in record { one = h.one; wanted = h.wanted; of_it = h.of_it; differs = h.differs },
  λ h. (all s).1 (record { one = h.one; wanted = h.wanted; of_it = h.of_it; differs = h.differs }),
)

-- ---- a session that is added
pub added : (r : Result (Unit {0}) NoMemory) (old new : List Session) (session : Session) (holds : Bool) → holds ≡ true → OnOk r ((s : Session) → In s new ↔ In s (old ++ session ∷ []))
    → OnOk r ((s : Session) → In s new ↔ (In s old ⊎ ((holds ≡ true) × (s ≡ session))))
added (Err e) old new session holds is all = tt
added (Ok x) old new session holds is all = λ s. (
  λ i. ⊎_elim (λ (j : In s old). inl j) (λ (j : In s (session ∷ [])). ⊎_elim (λ (e : s ≡ session). inr (is, e)) (λ (n : ⊥). absurd n) j) (in_append s old (session ∷ []) ((all s).0 i)),
  λ h. (all s).1 (⊎_elim (λ (j : In s old). in_left s old (session ∷ []) j) (λ (j : (holds ≡ true) × (s ≡ session)). in_right s old (session ∷ []) (inl j.1)) h),
)

pub not_added : (old : List Session) (session : Session) (holds : Bool) → holds ≡ false → (s : Session) → In s old ↔ (In s old ⊎ ((holds ≡ true) × (s ≡ session)))
not_added old session holds is s = (
  λ i. inl i,
  λ h. ⊎_elim (λ (j : In s old). j) (λ (j : (holds ≡ true) × (s ≡ session)). let z : false ≡ true = sym is ∙ j.0 in absurd (cc)) h,
)
