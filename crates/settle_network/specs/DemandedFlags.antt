-- The policing flags that are demanded (RFC 2205, 3.8): those with which each end of a settled network marks what it owes, by the network,
-- its senders and its wants. E_Police is set in the Path of each local sender, and by no router.
use Rattle.std.specs.Prelude.{◌≡◌, ℕ, ◌==◌, Bool, not, ◌&&◌, List, map as each, length, slice_get}
use Rattle.std.specs.List.{filter, flat_map, list_any, range_with_len}
use Rattle.std.specs.Ordering.{eq_by_cmp}
use Rattle.rsvp_base.specs.declared.entry_key.EntryKey.{EntryKey}
use Rattle.rsvp_base.specs.declared.part.Part.{Part}
use Rattle.rsvp_base.specs.declared.style.StyleKind.TheVariants.{Fixed}
use Rattle.rsvp_base.specs.Orders.{senders, sessions, units}
use Rattle.rsvp_base.specs.Sets.{cut, is_none}
use Rattle.rsvp_base.specs.Styles.{name_of}
use Rattle.rsvp_base.specs.Table.{has}
use Rattle.style_rules.specs.FlowOrder.{flow_le}
use Rattle.style_rules.specs.Lines.{Line}
use Rattle.router_rules.specs.declared.entry.Entry.{Entry}
use Rattle.router_rules.specs.declared.entry.Police.{Police}
use Rattle.router_rules.specs.Requests.{is_style}
use Rattle.tree_model.specs.declared.hops.LinkHop.{LinkHop}
use Rattle.tree_model.specs.declared.locals.LocalSender.{LocalSender}
use Rattle.tree_model.specs.Goals.{demand_of, goal}
use Rattle.tree_model.specs.Networks.{Net, node_of}
use Rattle.tree_model.specs.Trees.{goes_into, goes_out_of, tree}
use Rattle.tree_model.specs.Wants.{Locals, of_session}
use Rattle.network_model.specs.DemandTexts.{of_end}
use Rattle.network_model.specs.Locals.{locals_of}
use Rattle.network_model.specs.Runs.{written}
use Rattle.network_model.specs.Steps.{Flags}
use Rattle.network_model.specs.Texts.{flags_text}
use Rattle.network_model.specs.Worlds.{World}
use Rattle.settle_network.specs.Flags.{HasSettledFlags}

-- two of these senders are not the same
abbrev pub are_two : List LocalSender → Bool
are_two xs = list_any (λ x. list_any (λ y. not (eq_by_cmp senders.cmp x.sender y.sender)) xs) xs

-- at an end
module _ (net : Net) (l : Locals) (e : ℕ) where
  -- the hop comes into the node of the end, by whichever of its ends
  abbrev pub comes_in : LinkHop → Bool
  comes_in h = goes_into net.ends (node_of net.ends e) h

  -- it comes there straight from the node of the sender
  abbrev pub comes_straight : LocalSender → LinkHop → Bool
  comes_straight x h = comes_in h && goes_out_of net.ends x.node h

  -- it goes out of the end
  abbrev pub goes_on : LinkHop → Bool
  goes_on h = h.from == e

  -- some hop of the sender's tree is such
  abbrev pub some_hop : (LinkHop → Bool) → LocalSender → Bool
  some_hop is x = list_any is (tree net.hops x.session.group x.sender.addr)

  -- ---- of an entry
  module _ (k : EntryKey) (part : Part) where
    -- a sender of the session that the entry names, whose tree comes to the node from another one and goes on by the end
    abbrev pub is_carried : LocalSender → Bool
    is_carried x = of_session k.session x && (has part.senders (name_of k.style x.sender) && (some_hop comes_in x && some_hop goes_on x))

    abbrev pub carried : List LocalSender
    carried = filter is_carried l.senders

    -- what else is wanted at the node of the session and style, of a sender that the entry names
    abbrev pub is_wanted_beside : Line → Bool
    is_wanted_beside g =
        (eq_by_cmp sessions.cmp k.session g.session && is_style k.style g.style) && (not ((g.end == e) && eq_by_cmp units.cmp g.unit k.unit) && not (is_none (cut part.senders g.part.senders)))

    abbrev pub wanted_beside : List Line
    wanted_beside = filter is_wanted_beside (goal net l (node_of net.ends e))

    -- E: one of these senders is the neighbour. M: they are two or more, of a style that merges senders. B: the entry's flow cannot
    -- stand for one that is wanted beside it
    abbrev pub demanded_police : Police
    demanded_police = record {
      e = list_any (λ x. some_hop (comes_straight x) x) carried;
      m = not (is_style k.style Fixed) && are_two carried;
      b = list_any (λ g. not (flow_le g.part.flow part.flow)) wanted_beside;
    }

  abbrev pub demanded_entry : EntryKey × Part → Entry
  demanded_entry r = record { key = r.0; part = r.1; police = demanded_police r.0 r.1 }

  -- the demand of the end, with its flags
  abbrev pub demanded_entries : List Entry
  demanded_entries = each demanded_entry (demand_of net l e).rows

-- ---- the text of a `flags` line
module _ (names : List (List ℕ)) (net : Net) (l : Locals) where
  abbrev pub end_flags : ℕ → List ℕ
  end_flags e = of_end (λ name x. flags_text name x.iface.capacity (demanded_entries net l e)) (slice_get names e) (slice_get net.ends e)

  abbrev pub demanded_flags : List ℕ
  demanded_flags = flat_map end_flags (range_with_len 0 (length net.ends))

-- a network whose flags are settled writes those that are demanded
abbrev pub SettledFlagsAreDemanded : Type 0
SettledFlagsAreDemanded = (q : ℕ) (u : World) → HasSettledFlags q u → (names : List (List ℕ)) → written q names Flags u ≡ demanded_flags names u.net (locals_of u)
