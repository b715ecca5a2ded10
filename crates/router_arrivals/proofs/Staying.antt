-- A path that is left over is put in its place, and what was said follows.
use Rattle.std.specs.Prelude.{◌≡◌, ℕ, true, false, Some, None, refl}
use Rattle.std.proofs.Common.{sym, ap, ◌∙◌}
use Rattle.path_state.specs.Paths.{path_keys}
use Rattle.path_state.specs.declared.fact.PathFact.{PathFact}
use Rattle.rsvp_base.specs.Orders.{senders}
use Rattle.rsvp_base.specs.SessionLimits.{has_room_at}
use Rattle.rsvp_base.specs.Table.{changed, has, put_in}
use Rattle.rsvp_base.proofs.SetLaws.{or_right}
use Rattle.router_rules.specs.Calls.{needs, stale_refusal, unless, with_left}
use Rattle.router_rules.specs.Facts.{SenderKey}
use Rattle.router_rules.specs.Forgetting.{counted, forget}
use Rattle.router_rules.specs.Rule.{facts_with, refusal_of_stale, settled}
use Rattle.router_rules.specs.declared.answers.StaleErr.TheVariants as stale
use Rattle.router_state.specs.Changes.{paths_put}
use Rattle.router_state.specs.State.{IsSettled, Said, State, facts_at, facts_of, path_at}
use Rattle.router_state.proofs.Counted.{same_settles}
use Rattle.router_state.proofs.Room.{room_same}
use Rattle.router_state.proofs.Settling.{changed_put, has_changed}
use Rattle.laws_sends.specs.Changed.{IsChangedFor}
use Rattle.laws_sends.proofs.Apart.{path_put, recounted_change}
use Rattle.router_arrivals.specs.Coming.{path_key, path_left, stale_path, with_path}
use Rattle.router_arrivals.proofs.Before.{change_with, settled_with}
use Rattle.router_arrivals.proofs.Keeping.{counts_by, put_more, put_there}
use Rattle.router_arrivals.proofs.Ruled.{all_remembered}
use Rattle.router_arrivals.proofs.Settles.{after_settled, change_settled}

module _ (n : State) (kept : IsSettled n) (fact : PathFact) (left : ℕ) where
  abbrev key : SenderKey
  key = path_key fact

  abbrev put : State
  put = paths_put n key fact left

  put_at : (c : ℕ) → put_in (facts_of c n).paths key (path_left c fact left) ≡ changed (path_at c) (put_in n.paths key (fact, left))
  put_at c = sym (changed_put path_keys (path_at c) n.paths key (fact, left) (path_left c fact left) refl)

  same_room : (c : ℕ) → has_room_at senders (put_in (facts_of c n).paths key (path_left c fact left)) fact.session ≡ has_room_at senders (put_in n.paths key (fact, left)) fact.session
  same_room c =
      ap (λ t. has_room_at senders t fact.session) (put_at c)
      ∙ room_same senders (changed (path_at c) (put_in n.paths key (fact, left))) (put_in n.paths key (fact, left))
      (has_changed path_keys (path_at c) (λ k v. refl) (put_in n.paths key (fact, left))) fact.session

  here : (c : ℕ) → true ≡ has (counted (facts_of c put)) fact.session
  here = counts_by put key (or_right (has n.senders key) _ (put_there path_keys n.paths key (fact, left)))

  forgot : (c : ℕ) → facts_of c put ≡ forget (facts_of c n) (facts_of c put)
  forgot = all_remembered n put (λ k h. h) (put_more path_keys n.paths key (fact, left)) kept.named

  module _ (full : has_room_at senders (put_in n.paths key (fact, left)) fact.session ≡ false) (c : ℕ) where
    refused : stale_refusal n.place (stale_path c fact left) (facts_of c n) ≡ Some stale.Full
    refused = ap (λ b. needs b stale.Full None) (same_room c ∙ full)

    pub full_refused : refusal_of_stale n.place (stale_path c fact left) (facts_at c n) ≡ Some stale.Full
    unfolding facts_at refusal_of_stale
    full_refused = refused

    pub full_facts : facts_at c n ≡ facts_with n.place c (stale_path c fact left) (facts_at c n)
    unfolding facts_at facts_with
    full_facts = sym (ap (λ r. settled n.place c (facts_of c n) (unless r (with_left (stale_path c fact left) (facts_of c n)) (facts_of c n))) refused ∙ same_settles n.place c n kept)

  module _ (room : has_room_at senders (put_in n.paths key (fact, left)) fact.session ≡ true) where
    free : (c : ℕ) → stale_refusal n.place (stale_path c fact left) (facts_of c n) ≡ None
    free c = ap (λ b. needs b stale.Full None) (same_room c ∙ room)

    pub room_free : (c : ℕ) → refusal_of_stale n.place (stale_path c fact left) (facts_at c n) ≡ None
    unfolding facts_at refusal_of_stale
    room_free c = free c

    pub room_facts : (c : ℕ) (any : Said) → facts_at c (record (with_path n key fact left) { said = any }) ≡ facts_with n.place c (stale_path c fact left) (facts_at c n)
    unfolding facts_at facts_with
    room_facts c any =
        change_settled key n put (path_put n key fact left) kept refl true here c (facts_of c put) (forgot c)
        ∙ sym
        (ap (λ r. settled n.place c (facts_of c n) (unless r (with_left (stale_path c fact left) (facts_of c n)) (facts_of c n))) (free c)
        ∙ ap (λ t. settled n.place c (facts_of c n) (record (facts_of c n) { paths = t })) (put_at c))

  pub stale_settled : (any : Said) → IsSettled (record (with_path n key fact left) { said = any })
  stale_settled any = settled_with (with_path n key fact left) any (after_settled key n put (path_put n key fact left) kept refl true here (λ c. facts_of c put) forgot kept.named)

  pub stale_change : (any : Said) → IsChangedFor key n (record (with_path n key fact left) { said = any })
  stale_change any = change_with key n (with_path n key fact left) any (recounted_change key n put key.0 true (path_put n key fact left))
