-- The pair of nodes meets the premises of the law on paths that are refreshed.
use Rattle.std.proofs.Common.{◌≡◌, ℕ, zero, suc, ◌*◌, ◌≤◌, List, [], ◌∷◌, length, Bool, true, false, cond, None, Some, inl, inr, ⊎_elim, arith, sym, refl, ap, subst, ◌∙◌}
use Rattle.std.specs.Prelude.{slice_get, map as each}
use Rattle.std.specs.Option.{option_map}
use Rattle.std.specs.Ordering.{eq_by_cmp}
use Rattle.rsvp_base.specs.Members.{In}
use Rattle.rsvp_base.specs.Orders.{sessions}
use Rattle.rsvp_base.specs.Table.{Table, empty, get, put_in}
use Rattle.rsvp_base.specs.TokenBucket.{TokenBucket}
use Rattle.rsvp_base.proofs.Tables.{got_put_in}
use Rattle.rsvp_messages.specs.declared.message.Message.TheVariants as message
use Rattle.calm_rounds.specs.Machine.{run}
use Rattle.calm_rounds.proofs.Holding.{hold_start}
use Rattle.calm_rounds.specs.Loss.{IsRefreshed, IsInTime}
use Rattle.tree_model.specs.declared.hops.LinkHop.{LinkHop}
use Rattle.tree_model.specs.declared.locals.LocalSender.{LocalSender}
use Rattle.tree_model.specs.Networks.{node_of, owner}
use Rattle.tree_model.specs.Trees.{tree}
use Rattle.router_rules.specs.Facts.{Facts, SenderKey, sender_keys}
use Rattle.router_rules.specs.Inputs.{Spelt}
use Rattle.network_model.specs.Bounds.{AreBounds, AreHosts}
use Rattle.network_model.specs.Links.{is_group}
use Rattle.network_model.specs.Locals.{IsLive, senders_at, sessions_of}
use Rattle.network_model.specs.Sound.{ArePathsSound}
use Rattle.network_model.specs.Steps.{Piece, Deliver, Lose, machine, sent, step}
use Rattle.network_model.specs.ThreeRouters.{group, s1, session, first, usual}
use Rattle.network_model.specs.Worlds.{Item, World}
use Rattle.laws_network.specs.Example.{pair_net, sending_world}
use Rattle.laws_network.specs.Refreshes.{due_at}
use Rattle.laws_network.specs.Rounds.{rounds_of}
use Rattle.laws_network.proofs.Known.{of_some}
use Rattle.settle_paths.specs.Sure.{forth}
use Rattle.settle_paths.specs.Telling.{IsSure}
use Rattle.settle_paths.proofs.Example.{a_pair_meets_the_premises}
use Rattle.settle_paths.proofs.Sure.{a_pair_is_sure}
use Rattle.settle_loss.specs.Example.{lit_pair, two_lost, ALossyPair}
use Rattle.settle_loss.specs.RefreshedPaths.{path_over, DoesPathLast}
use Rattle.settle_loss.proofs.KnownWorlds.{known_step}
use Rattle.settle_loss.proofs.SoundPaths.{sound_step}

abbrev key : SenderKey
key = (session, first)

abbrev none_yet : Table sender_keys TokenBucket
none_yet = empty

-- ---- the one local sender
sender_told : (n : ℕ) (m : Table sender_keys TokenBucket) (k : SenderKey) (t : TokenBucket) → senders_at lit_pair n ≡ Some m → get m k ≡ Some t → (n ≡ 0) × (k ≡ key) × (t ≡ usual)
sender_told zero m k t e h =
    let same : put_in none_yet key usual ≡ m = of_some _ _ e in
    ⊎_elim
    (λ (here : (k ≡ key) × (t ≡ usual)). (refl, here.0, here.1))
    (λ (old : get none_yet k ≡ Some t). absurd (cc))
    (got_put_in sender_keys none_yet key usual k t (ap (λ (z : Table sender_keys TokenBucket). get z k) same ∙ h))
sender_told (suc zero) m k t e h =
    let same : none_yet ≡ m = of_some _ _ e in
    let none : get none_yet k ≡ Some t = ap (λ (z : Table sender_keys TokenBucket). get z k) same ∙ h in
    absurd (cc)
sender_told (suc (suc n)) m k t e h = absurd (cc)

at_node : (n : ℕ) (f : Facts) (k : SenderKey) (t : TokenBucket) → slice_get lit_pair.nodes n ≡ Some f → get f.senders k ≡ Some t → (n ≡ 0) × (k ≡ key) × (t ≡ usual)
at_node n f k t e h = sender_told n f.senders k t (ap (option_map (λ (g : Facts). g.senders)) e) h

hosts : AreHosts lit_pair
hosts = record {
  placed = λ n f k t e h. let is = at_node n f k t e h in ap (λ (z : SenderKey). owner pair_net.ends z.1.addr) is.1 ∙ ap Some (sym is.0);
  groups = λ n f k t e h. let is = at_node n f k t e h in ap (λ (z : SenderKey). is_group z.0.group) is.1;
  few_senders = λ s. few (eq_by_cmp sessions.cmp s session);
  few_sessions = let n : length (sessions_of lit_pair) ≡ 1 = refl in omega arith;
}
  where
    few : (b : Bool) → length (each (λ (x : LocalSender). x.sender) (cond b ((record { node = 0; session = session; sender = first }) ∷ []) [])) ≤ 16
    few true = omega arith
    few false = omega arith

live : IsLive lit_pair key usual
live = record { node = 0; senders = put_in none_yet key usual; at = refl; sends = refl }

-- ---- the world in which the Path has arrived
first_sure : IsSure 7500 sending_world 0 sending_world
first_sure = hold_start (machine 7500) (IsSure 7500 sending_world 0) (rounds_of 7500 2 sending_world) sending_world a_pair_is_sure.sure

bounds : AreBounds 7500 lit_pair
bounds = (known_step 7500 sending_world (Deliver 0) sending_world refl first_sure.known).bounds

sound : ArePathsSound lit_pair
sound = sound_step 7500 sending_world a_pair_meets_the_premises.bounds.net (Deliver 0) sending_world refl first_sure.known first_sure.sound

-- ---- whatever is live is the one sender, and its tree has one hop
only : (P : SenderKey → TokenBucket → LinkHop → Type 0) → P key usual forth
    → (k : SenderKey) (t : TokenBucket) (h : LinkHop) → IsLive lit_pair k t → In h (tree pair_net.hops k.0.group k.1.addr) → P k t h
only P p k t h l i =
    let is = sender_told l.node l.senders k t l.at l.sends in
    let there : In h (tree pair_net.hops group s1) = subst (λ (z : SenderKey). In h (tree pair_net.hops z.0.group z.1.addr)) is.1 i in
    let hop : h ≡ forth = ⊎_elim (λ (e : h ≡ forth). e) (λ (none : ⊥). absurd none) there in
    subst (λ (z : LinkHop). P k t z) (sym hop) (subst (λ (z : TokenBucket). P k z forth) (sym is.2) (subst (λ (z : SenderKey). P z usual forth) (sym is.1) p))

lasts : DoesPathLast 7500 lit_pair key usual forth
lasts = record { dies = 157500; kept = refl; moment = 30000; due = refl; long = omega arith }

-- ---- the third Path arrives in time
-- what is sent first; of nothing, anything
abbrev first_of : List (Item × Bool) → Item
first_of [] = record { end = 0; dst = s1; arrival = Spelt (message.PathTear (record { session = session; hop = record { addr = s1; handle = 0 }; sender = None })); born = 0 }
first_of (x ∷ xs) = x.0

abbrev third_world : World
third_world = run (machine 7500) (Piece 15000 ∷ Piece 15000 ∷ Lose 0 ∷ Piece 15000 ∷ Piece 15000 ∷ Piece 15000 ∷ Lose 0 ∷ Piece 15000 ∷ Piece 15000 ∷ []) lit_pair

later : (step 7500 (Piece 15000) third_world).clock ≡ 120000
later = refl

at_last : (run (machine 7500) two_lost lit_pair).clock ≡ 165000
at_last = refl

arrives : IsInTime (machine 7500) (λ u. due_at u (node_of pair_net.ends forth.from) key.0) (Some (path_over pair_net key forth)) (3 * 7500)
    (Piece 15000) (Deliver 0 ∷ Piece 15000 ∷ Piece 15000 ∷ Piece 15000 ∷ []) third_world
arrives = record {
  item = first_of (sent 7500 (Piece 15000) third_world);
  refresh = record { sent = inl refl; goes = refl };
  moment = 105537;
  reached = refl;
  arrives = inl (refl, omega (arith, later));
}

refreshed : IsRefreshed (machine 7500) (λ u. due_at u (node_of pair_net.ends forth.from) key.0) (Some (path_over pair_net key forth)) two_lost lit_pair
refreshed = (
  inl (
    (λ x r. absurd r.sent),
    inr (inr (inl (
      (λ x r. absurd r.sent),
      inl ((λ x r. absurd r.sent), inl ((λ x r. absurd r.sent), inr (inr (inl ((λ x r. absurd r.sent), inl ((λ x r. absurd r.sent), inl ((λ x r. absurd r.sent), inr (inl arrives)))))))),
    ))),
  ),
  (
    inr (inr (inl (
      (λ x r. absurd r.sent),
      inl ((λ x r. absurd r.sent), inl ((λ x r. absurd r.sent), inr (inr (inl ((λ x r. absurd r.sent), inl ((λ x r. absurd r.sent), inl ((λ x r. absurd r.sent), inr (inl arrives)))))))),
    ))),
    (
      inl (
        (λ x r. absurd r.sent),
        inl ((λ x r. absurd r.sent), inl ((λ x r. absurd r.sent), inr (inr (inl ((λ x r. absurd r.sent), inl ((λ x r. absurd r.sent), inl ((λ x r. absurd r.sent), inr (inl arrives)))))))),
      ),
      (
        inl ((λ x r. absurd r.sent), inl ((λ x r. absurd r.sent), inr (inr (inl ((λ x r. absurd r.sent), inl ((λ x r. absurd r.sent), inl ((λ x r. absurd r.sent), inr (inl arrives)))))))),
        (
          inl ((λ x r. absurd r.sent), inr (inr (inl ((λ x r. absurd r.sent), inl ((λ x r. absurd r.sent), inl ((λ x r. absurd r.sent), inr (inl arrives))))))),
          (
            inr (inr (inl ((λ x r. absurd r.sent), inl ((λ x r. absurd r.sent), inl ((λ x r. absurd r.sent), inr (inl arrives)))))),
            (
              inl ((λ x r. absurd r.sent), inl ((λ x r. absurd r.sent), inl ((λ x r. absurd r.sent), inr (inl arrives)))),
              (
                inl ((λ x r. absurd r.sent), inl ((λ x r. absurd r.sent), inr (inl arrives))),
                (
                  inl ((λ x r. absurd r.sent), inr (inl arrives)),
                  (
                    inr (inl arrives),
                    (
                      inl ((λ x r. absurd r.sent), inr (inr (inl ((λ x r. absurd r.sent), inl ((λ x r. absurd r.sent), tt))))),
                      (
                        inr (inr (inl ((λ x r. absurd r.sent), inl ((λ x r. absurd r.sent), tt)))),
                        (inl ((λ x r. absurd r.sent), inl ((λ x r. absurd r.sent), tt)), (inl ((λ x r. absurd r.sent), tt), tt)),
                      ),
                    ),
                  ),
                ),
              ),
            ),
          ),
        ),
      ),
    ),
  ),
)

pub a_lossy_pair : ALossyPair
a_lossy_pair = record {
  hosts = hosts;
  bounds = bounds;
  sound = sound;
  order = record { paths = λ y m i. absurd i; tears = λ y m x t h i. absurd i };
  live = live;
  there = inl refl;
  last = only (λ k t h. DoesPathLast 7500 lit_pair k t h) lasts;
  quiet = (refl, (refl, (refl, (refl, (refl, (refl, (refl, (refl, (refl, (refl, (refl, (refl, (refl, (refl, tt))))))))))))));
  refreshed = only (λ k t h. IsRefreshed (machine 7500) (λ u. due_at u (node_of pair_net.ends h.from) k.0) (Some (path_over pair_net k h)) two_lost lit_pair) refreshed;
  long = omega (arith, at_last);
}
