-- What an `adverts` line writes once advertisements have settled: by end, session and sender the advertisement of each advertised live
-- sender whose tree comes into the node by that end. It is a function of the network and of who is advertised.
use Rattle.std.specs.Prelude.{◌≡◌, ℕ, ◌==◌, Bool, cond, None, Option, List, map as each, length, slice_get}
use Rattle.std.specs.List.{filter, flat_map, list_any, range_with_len}
use Rattle.rsvp_base.specs.Sets.{Set, set_of}
use Rattle.rsvp_base.specs.Table.{Table, changed}
use Rattle.rsvp_messages.specs.RsvpObjects.declared.adspec.Adspec.{Adspec}
use Rattle.router_rules.specs.Facts.{SenderKey, sender_keys}
use Rattle.tree_model.specs.Networks.{Net, node_of}
use Rattle.tree_model.specs.Trees.{tree}
use Rattle.network_model.specs.Bounds.{AreBounds}
use Rattle.network_model.specs.DemandTexts.{of_end}
use Rattle.network_model.specs.Locals.{locals_of}
use Rattle.network_model.specs.Runs.{written}
use Rattle.network_model.specs.Sound.{ArePathsSound}
use Rattle.network_model.specs.Steps.{Adverts}
use Rattle.network_model.specs.Texts.{adverts_text}
use Rattle.network_model.specs.Worlds.{World}
use Rattle.settle_adverts.specs.Adverts.{AreAdvertsExact, AreAdvertsThere, is_advertised, advert_over}
use Rattle.settle_adverts.specs.Ways.{way}

-- the live senders that are advertised
abbrev pub advertised_senders : World → Set sender_keys
advertised_senders w = set_of (filter (is_advertised w) (each (λ x. (x.session, x.sender)) (locals_of w).senders))

-- at an end
module _ (net : Net) (e : ℕ) where
  -- the sender's tree comes into the node by the end
  abbrev pub comes_by : SenderKey → Bool
  comes_by k = list_any (λ h. h.to == e) (tree net.hops k.0.group k.1.addr)

  -- then the advertisement of the way to there
  abbrev pub demanded_advert : SenderKey → Option Adspec
  demanded_advert k = cond (comes_by k) (advert_over net (way net k.0.group k.1.addr (node_of net.ends e))) None

  -- of each of these senders
  abbrev pub demanded_adverts_at : Set sender_keys → Table sender_keys Adspec
  demanded_adverts_at advertised = changed (λ k one. demanded_advert k) advertised

-- ---- the text of an `adverts` line
module _ (names : List (List ℕ)) (net : Net) (advertised : Set sender_keys) where
  abbrev pub end_adverts : ℕ → List ℕ
  end_adverts e = of_end (λ name x. adverts_text name (demanded_adverts_at net e advertised).rows) (slice_get names e) (slice_get net.ends e)

  abbrev pub demanded_adverts : List ℕ
  demanded_adverts = flat_map end_adverts (range_with_len 0 (length net.ends))

-- ---- where advertisements have settled
pub record HasSettledAdverts (q : ℕ) (w : World) : Type 0 where
  pub bounds : AreBounds q w
  pub sound : ArePathsSound w
  pub exact : AreAdvertsExact w
  pub there : AreAdvertsThere w

-- the line writes those that are demanded
abbrev pub SettledAdvertsAreDemanded : Type 0
SettledAdvertsAreDemanded =
    (q : ℕ) (u : World) → HasSettledAdverts q u → (names : List (List ℕ)) → written q names Adverts u ≡ demanded_adverts names u.net (advertised_senders u)
