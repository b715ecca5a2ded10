-- Any number of senders may send one after another, and 17 of a session at once are too many.
use Rattle.std.proofs.Common.{◌≡◌, ◌≤◌, List, [], ◌∷◌, Bool, true, false, cond, inl, inr, ⊎_elim, arith, sym, refl, ap, subst, ◌∙◌}
use Rattle.std.specs.Prelude.{◌==◌, ◌&&◌, not, map as each}
use Rattle.std.specs.Ordering.{eq_by_cmp}
use Rattle.rsvp_base.specs.Members.{In}
use Rattle.rsvp_base.specs.Orders.{senders, sessions}
use Rattle.rsvp_base.specs.Sets.{set_of}
use Rattle.rsvp_base.specs.Table.{size}
use Rattle.rsvp_base.proofs.Tables.{tied_self}
use Rattle.network_model.specs.ThreeRouters.{session}
use Rattle.tree_model.specs.declared.locals.LocalSender.{LocalSender}
use Rattle.tree_model.specs.Wants.{of_session}
use Rattle.tree_model.proofs.Following.{number_same}
use Rattle.network_model.specs.Events.{Event}
use Rattle.network_model.specs.Links.{is_group}
use Rattle.laws_network.specs.HowManySend.{HowManySend, begins, ends, one_after_another, seventeen}
use Rattle.laws_network.specs.Runs.{AreFew, AreFewSenders, is_sender_at, sending_then}

nobody : AreFew []
nobody = record { groups = λ l i. absurd i; few_senders = λ s. omega arith; few_sessions = omega arith }

one : (x : LocalSender) → is_group x.session.group ≡ true → AreFew (x ∷ [])
one x group = record {
  groups = λ l i. ⊎_elim (λ (same : l ≡ x). ap (λ (z : LocalSender). is_group z.session.group) same ∙ group) (λ (no : ⊥). absurd no) i;
  few_senders = λ s. few (of_session s x);
  few_sessions = omega arith;
}
  where
    few : (b : Bool) → size (set_of {o = senders} (each (λ (z : LocalSender). z.sender) (cond b (x ∷ []) []))) ≤ 16
    few true = omega arith
    few false = omega arith

dropped : (x : LocalSender) → sending_then (ends x) (x ∷ []) ≡ []
dropped x = ap (λ (b : Bool). cond (not b) (x ∷ []) []) here
  where
    both : (a b c : Bool) → a ≡ true → b ≡ true → c ≡ true → (a && (b && c)) ≡ true
    both a b c e f g = cc

    here : is_sender_at x.node x.session x.sender x ≡ true
    here = both (x.node == x.node) (eq_by_cmp sessions.cmp x.session x.session) (eq_by_cmp senders.cmp x.sender x.sender) (number_same x.node x.node refl) (tied_self sessions x.session)
        (tied_self senders x.sender)

one_by_one : (xs : List LocalSender) → ((x : LocalSender) → In x xs → is_group x.session.group ≡ true) → AreFewSenders [] (one_after_another xs)
one_by_one [] groups = nobody
one_by_one (x ∷ xs) groups =
    let rest = one_by_one xs (λ y i. groups y (inr i)) in
    (nobody, (one x (groups x (inl refl)), subst (λ (z : List LocalSender). AreFewSenders z (one_after_another xs)) (sym (dropped x)) rest))

-- ---- those who send behind the events
sending_after : List Event → List LocalSender → List LocalSender
sending_after [] ls = ls
sending_after (e ∷ es) ls = sending_after es (sending_then e ls)

at_the_end : (es : List Event) (ls : List LocalSender) → AreFewSenders ls es → AreFew (sending_after es ls)
unfolding sending_after
at_the_end [] ls f = f
at_the_end (e ∷ es) ls f = at_the_end es (sending_then e ls) f.1

at_once : AreFewSenders [] (each begins seventeen) → ⊥
unfolding sending_after
at_once f = let few = (at_the_end (each begins seventeen) [] f).few_senders session in omega (arith, few)

pub how_many_send : HowManySend
how_many_send = record { one_by_one = one_by_one; at_once = at_once }
