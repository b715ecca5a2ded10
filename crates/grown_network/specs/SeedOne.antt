-- Seed 1: its first words, senders, wants, ends and hops, as they come out of the rules by hand.
use Rattle.std.specs.Prelude.{◌≡◌, ◌∷◌, [], length, map as each, slice_get, Some, codes, take}
use Rattle.rsvp_base.specs.Orders.{names_from}
use Rattle.rsvp_base.specs.Table.{empty}
use Rattle.rsvp_base.specs.declared.style.StyleKind.TheVariants.{Wild, Shared}
use Rattle.network_model.specs.Steps.{word_for}
use Rattle.tree_model.specs.declared.locals.LocalSender.{LocalSender}
use Rattle.grown_network.specs.Grown.{asked, grown_net}
use Rattle.grown_network.specs.Hops.{hop_down, hop_up, hops_away}
use Rattle.grown_network.specs.Hosts.{flow_of, sender_of, senders, session_word, wants}
use Rattle.grown_network.specs.Nodes.{ends_up_to, names_up_to}

pub record SeedOneIsAsWorked : Type 0 where
  -- the words of the three sessions, and those of node 0 behind them
  pub words : each (word_for 1) (0 ∷ 1 ∷ 2 ∷ 3 ∷ 4 ∷ 5 ∷ []) ≡ 1817669548 ∷ 2187888307 ∷ 2784682393 ∷ 1644385741 ∷ 3416422068 ∷ 2149679590 ∷ []
  pub senders : each (λ (x : LocalSender). x.node) (senders 1) ≡ 44 ∷ 60 ∷ 12 ∷ 28 ∷ 51 ∷ 3 ∷ 19 ∷ 35 ∷ 25 ∷ 41 ∷ 57 ∷ 9 ∷ []
  -- node 0 wants of the first session and of the third, and nothing of the second
  pub first : slice_get (wants 1) 0 ≡ Some (record { node = 0; style = Wild; senders = empty; flow = flow_of 6000 })
  pub second : slice_get (wants 1) 1 ≡ Some (record {
    node = 0;
    style = Shared;
    senders = names_from (sender_of (session_word 1 Shared) 1 ∷ sender_of (session_word 1 Shared) 2 ∷ sender_of (session_word 1 Shared) 3 ∷ []);
    flow = flow_of 2000;
  })
  pub how_many : length (wants 1) ≡ 133
  -- a fixed want is one for each sender that it names
  pub asked : length (asked 1).wants ≡ 184
  -- what leads away from node 5: up over node 2 to node 0, and down over the other links
  pub hops : take 5 (hops_away 5) ≡ hop_up 5 ∷ hop_up 2 ∷ hop_down 1 ∷ hop_down 3 ∷ hop_down 4 ∷ []
  pub all_hops : length (grown_net 1).hops ≡ 756
  pub names : take 4 (names_up_to 63) ≡ codes "d1" ∷ codes "u1" ∷ codes "d2" ∷ codes "u2" ∷ []
  pub ends : length (ends_up_to 63) ≡ 126
