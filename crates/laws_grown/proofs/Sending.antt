-- The senders of a grown network begin to send, one after another: none is refused.
use Rattle.std.proofs.Common.{◌≡◌, ℕ, ◌+◌, ◌<◌, ◌≤◌, Bool, true, false, cond, List, [], ◌∷◌, length, None, refl, sym, ap, ◌∙◌, inl, inr, arith}
use Rattle.std.specs.Prelude.{map as each, ◌==◌}
use Rattle.std.specs.List.{list_all, list_any, range_with_len}
use Rattle.rsvp_base.specs.Members.{In}
use Rattle.rsvp_base.specs.Orders.{senders as by_sender}
use Rattle.rsvp_base.specs.SessionLimits.{has_room_at}
use Rattle.rsvp_base.specs.Table.{has, put_in, size}
use Rattle.rsvp_base.specs.declared.iface.Iface.{Iface}
use Rattle.rsvp_base.proofs.Tables.{size-put_in}
use Rattle.router_rules.specs.declared.answers.LocalErr.TheVariants as local
use Rattle.router_rules.specs.Calls.{SendersOf, call_refusal, needs}
use Rattle.router_rules.specs.Facts.{Facts, Want, WantKey, sender_keys}
use Rattle.router_rules.specs.Inputs.{SendAs}
use Rattle.router_rules.specs.NodeConfig.{is_addr, is_own}
use Rattle.calm_rounds.specs.Machine.{run}
use Rattle.tree_model.specs.Networks.{ends_of}
use Rattle.tree_model.specs.declared.hops.TreeHop.{TreeHop}
use Rattle.tree_model.specs.declared.locals.LocalSender.{LocalSender}
use Rattle.tree_model.proofs.Following.{same_number}
use Rattle.network_model.specs.Steps.{At, Step, machine, step}
use Rattle.network_model.specs.Worlds.{World, config_of, ifaces_at}
use Rattle.grown_network.specs.Grown.{net_with}
use Rattle.grown_network.specs.Growing.{IsAtHome}
use Rattle.grown_network.specs.Hosts.{flow_of}
use Rattle.grown_network.specs.Nodes.{ends_up_to, home}
use Rattle.grown_network.proofs.Ranges.{at_each}
use Rattle.laws_grown.proofs.Calls.{Have, called}
use Rattle.laws_grown.proofs.Rows.{small_has_room}

-- ---- a node has its address
own_tested : list_all (λ r. list_any (λ (i : Iface). is_addr i.addr (home r)) (ifaces_at (ends_up_to 63) (ends_of (ends_up_to 63) r))) (range_with_len 0 64) ≡ true
unfolding ends_up_to
own_tested = refl

own_home : (r : ℕ) → r < 64 → list_any (λ (i : Iface). is_addr i.addr (home r)) (ifaces_at (ends_up_to 63) (ends_of (ends_up_to 63) r)) ≡ true
own_home r lt = at_each (λ r. list_any (λ (i : Iface). is_addr i.addr (home r)) (ifaces_at (ends_up_to 63) (ends_of (ends_up_to 63) r))) 0 64 r own_tested (omega arith) (omega arith)

-- ---- one after another
abbrev pub send_step : LocalSender → Step
send_step x = At x.node (SendAs x.session x.sender (flow_of 1000))

abbrev pub with_send : (ℕ → SendersOf) → LocalSender → ℕ → SendersOf
with_send S x n = cond (x.node == n) (put_in (S n) (x.session, x.sender) (flow_of 1000)) (S n)

unfoldable pub after_sends : List LocalSender → (ℕ → SendersOf) → ℕ → SendersOf
after_sends [] S = S
after_sends (x ∷ xs) S = after_sends xs (with_send S x)

one_more : (S : ℕ → SendersOf) (x : LocalSender) (n : ℕ) → size (with_send S x n) ≤ size (S n) + 1
one_more S x n = by (x.node == n)
  where
    more : (b : Bool) (k : ℕ) → cond b k (k + 1) ≤ k + 1
    more true k = omega arith
    more false k = omega arith

    by : (b : Bool) → size (cond b (put_in (S n) (x.session, x.sender) (flow_of 1000)) (S n)) ≤ size (S n) + 1
    by true = let e = size-put_in sender_keys (S n) (x.session, x.sender) (flow_of 1000) in let le = more (has (S n) (x.session, x.sender)) (size (S n)) in omega (arith, e, le)
    by false = omega arith

module _ (q : ℕ) (trees : List TreeHop) where
  module _ (S : ℕ → SendersOf) (R : ℕ → List (WantKey × Want)) (w : World) (have : Have (net_with trees) S R w) (clear : (n : ℕ) (e : WantKey × Want) → In e (R n) → e.1.confirm ≡ false)
      (x : LocalSender) (at : IsAtHome x)
      (few : (n : ℕ) → size (S n) ≤ 15) where
    not_refused : (n : ℕ) (f : Facts) → (x.node == n) ≡ true → f.senders ≡ S n → call_refusal (config_of q (net_with trees) w.trees n) (SendAs x.session x.sender (flow_of 1000)) f ≡ None
    not_refused n f on is =
        let node = same_number x.node n on in
        let own : is_own (config_of q (net_with trees) w.trees n) x.sender.addr ≡ true =
        ap (λ a. is_own (config_of q (net_with trees) w.trees n) a) at.home_is ∙ ap (λ m. list_any (λ (i : Iface). is_addr i.addr (home x.node))
        (ifaces_at (ends_up_to 63) (ends_of (ends_up_to 63) m))) (sym node) ∙ own_home x.node at.within in
        let size_is = ap size is in
        let e = size-put_in sender_keys f.senders (x.session, x.sender) (flow_of 1000) in
        let le = more (has f.senders (x.session, x.sender)) (size f.senders) in
        let most = few n in
        let room = small_has_room by_sender (put_in f.senders (x.session, x.sender) (flow_of 1000)) x.session (omega (arith, size_is, e, le, most)) in
        ap (λ b. needs b local.NotMine (needs (has_room_at by_sender (put_in f.senders (x.session, x.sender) (flow_of 1000)) x.session) local.Full None)) own
        ∙ ap (λ b. needs b local.Full None) room
      where
        more : (b : Bool) (k : ℕ) → cond b k (k + 1) ≤ k + 1
        more true k = omega arith
        more false k = omega arith

    pub sent_one : Have (net_with trees) (with_send S x) R (step q (send_step x) w)
    sent_one =
        called q (net_with trees) S R w have x.node (SendAs x.session x.sender (flow_of 1000)) (with_send S x) R
        (record {
          other_senders = λ n off. ap (λ b. cond b (put_in (S n) (x.session, x.sender) (flow_of 1000)) (S n)) off;
          other_wants = λ n off. refl;
          taken = λ n f on is rows. not_refused n f on is;
          own_senders = λ n f on is. ap (λ (t : SendersOf). put_in t (x.session, x.sender) (flow_of 1000)) is ∙ sym (ap (λ b. cond b (put_in (S n) (x.session, x.sender) (flow_of 1000)) (S n)) on);
          own_wants = λ n f on rows. rows;
          clear = clear;
        })

  pub all_sent : (xs : List LocalSender) (S : ℕ → SendersOf) (R : ℕ → List (WantKey × Want)) (w : World) → Have (net_with trees) S R w
      → ((n : ℕ) (e : WantKey × Want) → In e (R n) → e.1.confirm ≡ false)
      → ((x : LocalSender) → In x xs → IsAtHome x) → ((n : ℕ) → size (S n) + length xs ≤ 16) → Have (net_with trees) (after_sends xs S) R (run (machine q) (each send_step xs) w)
  unfolding after_sends
  all_sent [] S R w have clear at few = have
  all_sent (x ∷ xs) S R w have clear at few =
      all_sent xs (with_send S x) R (step q (send_step x) w) (sent_one S R w have clear x (at x (inl refl)) (λ n. let le = few n in omega (arith, le))) clear (λ y i. at y (inr i))
      (λ n. let le = few n in let more = one_more S x n in omega (arith, le, more))
