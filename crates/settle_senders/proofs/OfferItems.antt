-- What Paths carry of a sender to an end, one after the other.
use Rattle.std.proofs.Common.{◌≡◌, ℕ, List, [], ◌∷◌, ◌++◌, Bool, true, false, cond, Option, Some, None, inl, inr, ⊎_elim, sym, refl, ap, ◌∙◌}
use Rattle.std.specs.Prelude.{◌==◌}
use Rattle.std.specs.Ordering.{eq_by_cmp}
use Rattle.rsvp_base.specs.declared.session.Sender.{Sender}
use Rattle.rsvp_base.specs.Members.{In}
use Rattle.rsvp_base.specs.TokenBucket.{TokenBucket}
use Rattle.rsvp_base.proofs.Tables.{tied_same, tied_self}
use Rattle.rsvp_messages.specs.declared.message.Message.{Message}
use Rattle.rsvp_messages.specs.declared.message.Message.TheVariants as message
use Rattle.rsvp_messages.specs.declared.message.PathMsg.{PathMsg}
use Rattle.style_rules.specs.Toward.{or_else}
use Rattle.router_rules.specs.Facts.{SenderKey, sender_keys}
use Rattle.router_rules.specs.Inputs.{Arrival, Spelt, Unspelt}
use Rattle.tree_model.proofs.Following.{number_same, same_number}
use Rattle.network_model.specs.Worlds.{Item}
use Rattle.laws_network.proofs.Known.{of_some}
use Rattle.settle_senders.specs.Readings.{Reading, carried_by, carried_in, carried_of, carried_to, kept_after}

module _ {A : Type 0} (r : Reading A) where
  -- ---- the item is a Path of the sender that carries this, and goes to the end
  pub record IsCarrying (k : SenderKey) (e : ℕ) (y : Item) (a : A) : Type 0 where
    pub end : y.end ≡ e
    pub path : PathMsg
    pub spelt : y.arrival ≡ Spelt (message.Path path)
    pub session : path.session ≡ k.0
    pub tspec : TokenBucket
    pub sender : path.sender ≡ Some (k.1, tspec)
    pub carried : r.carried path tspec ≡ a

  pub carried_made : (k : SenderKey) (e : ℕ) (y : Item) (a : A) → IsCarrying k e y a → carried_to r k e y ≡ Some a
  carried_made k e y a b =
      let key : ◌≡◌ {A = SenderKey} (b.path.session, k.1) k = (λ i. (b.session i, k.1)) in
      let named : eq_by_cmp sender_keys.cmp (b.path.session, k.1) k ≡ true = ap (λ (z : SenderKey). eq_by_cmp sender_keys.cmp z k) key ∙ tied_self sender_keys k in
      ap (λ (z : Bool). cond z (carried_by r k y.arrival) None) (number_same y.end e b.end)
      ∙ ap (carried_by r k) b.spelt
      ∙ ap (carried_of r k b.path) b.sender
      ∙ ap (λ (z : Bool). cond z (Some (r.carried b.path b.tspec)) None) named
      ∙ ap Some b.carried

  -- a Path that names the sender
  record IsNamed (k : SenderKey) (p : PathMsg) (a : A) : Type 0 where
    session : p.session ≡ k.0
    tspec : TokenBucket
    sender : p.sender ≡ Some (k.1, tspec)
    carried : r.carried p tspec ≡ a

  named_told : (k : SenderKey) (p : PathMsg) (a : A) → carried_of r k p p.sender ≡ Some a → IsNamed k p a
  named_told k p a e = by p.sender refl e
    where
      by_key : (s : Sender × TokenBucket) → p.sender ≡ Some s → (b : Bool) → eq_by_cmp sender_keys.cmp (p.session, s.0) k ≡ b → cond b (Some (r.carried p s.1)) None ≡ Some a → IsNamed k p a
      by_key s is false tie h = absurd (cc)
      by_key s is true tie h =
          let same : ◌≡◌ {A = SenderKey} (p.session, s.0) k = tied_same sender_keys (p.session, s.0) k tie in
          record {
            session = ap (λ (z : SenderKey). z.0) same;
            tspec = s.1;
            sender = is ∙ ap (λ (z : Sender). Some (z, s.1)) (ap (λ (z : SenderKey). z.1) same);
            carried = of_some (r.carried p s.1) a h;
          }

      by : (o : Option (Sender × TokenBucket)) → p.sender ≡ o → carried_of r k p o ≡ Some a → IsNamed k p a
      by None is h = absurd (cc)
      by (Some s) is h = by_key s is (eq_by_cmp sender_keys.cmp (p.session, s.0) k) refl h

  pub carried_told : (k : SenderKey) (e : ℕ) (y : Item) (a : A) → carried_to r k e y ≡ Some a → IsCarrying k e y a
  carried_told k e y a h = by_end (y.end == e) refl h
    where
      by_message : y.end ≡ e → (m : Message) → y.arrival ≡ Spelt m → carried_in r k m ≡ Some a → IsCarrying k e y a
      by_message at (message.Path p) is h =
          let n = named_told k p a h in
          record { end = at; path = p; spelt = is; session = n.session; tspec = n.tspec; sender = n.sender; carried = n.carried }
      by_message at (message.Resv m) is h = absurd (cc)
      by_message at (message.PathErr m) is h = absurd (cc)
      by_message at (message.ResvErr m) is h = absurd (cc)
      by_message at (message.PathTear m) is h = absurd (cc)
      by_message at (message.ResvTear m) is h = absurd (cc)
      by_message at (message.ResvConf m) is h = absurd (cc)

      by_arrival : y.end ≡ e → (z : Arrival) → y.arrival ≡ z → carried_by r k z ≡ Some a → IsCarrying k e y a
      by_arrival at (Spelt m) is h = by_message at m is h
      by_arrival at (Unspelt x) is h = absurd (cc)

      by_end : (b : Bool) → (y.end == e) ≡ b → cond b (carried_by r k y.arrival) None ≡ Some a → IsCarrying k e y a
      by_end true same h = by_arrival (same_number y.end e same) y.arrival refl h
      by_end false other h = absurd (cc)

  -- ---- one list behind the other
  pub after_append : (k : SenderKey) (e : ℕ) (now : Option A) (xs ys : List Item) → kept_after r k e now (xs ++ ys) ≡ kept_after r k e (kept_after r k e now xs) ys
  after_append k e now [] ys = refl
  after_append k e now (x ∷ xs) ys = after_append k e (or_else (carried_to r k e x) now) xs ys

  -- each that carries something carries this
  abbrev pub AllCarry : SenderKey → ℕ → A → List Item → Type 0
  AllCarry k e a ys = (y : Item) (b : A) → In y ys → carried_to r k e y ≡ Some b → b ≡ a

  pub after_all : (k : SenderKey) (e : ℕ) (a : A) (now : Option A) (ys : List Item) → AllCarry k e a ys → now ≡ Some a → kept_after r k e now ys ≡ Some a
  after_all k e a now [] all is = is
  after_all k e a now (y ∷ ys) all is = after_all k e a (or_else (carried_to r k e y) now) ys (λ z b i h. all z b (inr i) h) (by (carried_to r k e y) refl)
    where
      by : (o : Option A) → carried_to r k e y ≡ o → or_else o now ≡ Some a
      by None h = is
      by (Some b) h = ap Some (all y b (inl refl) h)

  -- and one does
  pub after_one : (k : SenderKey) (e : ℕ) (a : A) (now : Option A) (ys : List Item) → AllCarry k e a ys → (y : Item) → In y ys → carried_to r k e y ≡ Some a → kept_after r k e now ys ≡ Some a
  after_one k e a now [] all y i is = absurd i
  after_one k e a now (z ∷ zs) all y i is =
      ⊎_elim
      (λ (same : y ≡ z). after_all k e a (or_else (carried_to r k e z) now) zs (λ x b j h. all x b (inr j) h) (ap (λ (o : Option A). or_else o now) (ap (carried_to r k e) (sym same) ∙ is)))
      (λ (j : In y zs). after_one k e a (or_else (carried_to r k e z) now) zs (λ x b l h. all x b (inr l) h) y j is) i

  -- none does
  pub after_none : (k : SenderKey) (e : ℕ) (now : Option A) (ys : List Item) → ((y : Item) (b : A) → In y ys → carried_to r k e y ≡ Some b → ⊥) → kept_after r k e now ys ≡ now
  after_none k e now [] none = refl
  after_none k e now (y ∷ ys) none =
      after_none k e (or_else (carried_to r k e y) now) ys (λ z b i h. none z b (inr i) h)
      ∙ by (carried_to r k e y) refl
    where
      by : (o : Option A) → carried_to r k e y ≡ o → or_else o now ≡ now
      by None h = refl
      by (Some b) h = absurd (none y b (inl refl) h)
