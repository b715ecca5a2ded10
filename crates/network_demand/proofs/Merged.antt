-- Parts that are merged without walls.
use Rattle.std.specs.Prelude.{◌≡◌, ℕ, ◌+◌, ◌<◌, ◌≤◌, false, List, [], ◌∷◌, ◌++◌, map as each, length, Some, refl, slice_index_or}
use Rattle.std.proofs.Common.{sym, ap, subst, ◌∙◌, take, arith}
use Rattle.rsvp_base.specs.declared.part.Part.{Part}
use Rattle.rsvp_base.specs.declared.style.StyleKind.{StyleKind}
use Rattle.rsvp_base.specs.Members.{In}
use Rattle.rsvp_base.specs.Orders.{Names, senders}
use Rattle.rsvp_base.specs.Sets.{union, IsWithin}
use Rattle.rsvp_base.specs.Table.{has, size, keys}
use Rattle.rsvp_base.proofs.Counts.{set_of_in}
use Rattle.rsvp_base.proofs.Members.{in_each, in_flat_map}
use Rattle.rsvp_base.proofs.SetLaws.{and_both, has-cut, size_within}
use Rattle.style_rules.specs.Parts.{part_cut}
use Rattle.style_rules.specs.PartLaws.{union_least}
use Rattle.style_rules.specs.CutLaws.{cut_senders}
use Rattle.style_rules.specs.Tally.{tally_of, names_of_requests, names_of_tally}
use Rattle.style_rules.specs.Toward.{Request, parts_of}
use Rattle.style_rules.proofs.StyleLaws.{in_named}
use Rattle.style_rules.proofs.TallyRoom.{merger_has_room}
use Rattle.tree_model.specs.Wants.{as_list}
use Rattle.tree_model.proofs.WantLaws.{in_as_list}
use Rattle.network_demand.specs.Steps.{cuts}
use Rattle.network_demand.proofs.Pools.{take_more, flat_append, append_none}

-- a request that is not blockaded
abbrev pub unwalled : Part → Request
unwalled p = record { part = p; blockaded = false }

pub parts_open : (ps : List Part) → parts_of (each unwalled ps) ≡ ps
parts_open [] = refl
parts_open (p ∷ ps) = ap (λ (qs : List Part). p ∷ qs) (parts_open ps)

pub none_blockaded : (ps : List Part) (r : Request) → In r (each unwalled ps) → r.blockaded ≡ false
none_blockaded ps r i = let p = in_each unwalled r ps i in ap (λ (x : Request). x.blockaded) p.2

module _ (names : Names) where
  -- one part more
  pub one_more : (ps : List Part) (i : ℕ) (d p : Part) → i < length ps → p ≡ slice_index_or ps i d → cuts names (take (i + 1) ps) ≡ cuts names (take i ps) ++ as_list (part_cut p names)
  one_more ps i d p lt is = ap (cuts names) (take_more ps i d p lt is) ∙ flat_append (λ p. as_list (part_cut p names)) (take i ps) (p ∷ [])
      ∙ ap (λ ys. cuts names (take i ps) ++ ys) (append_none (as_list (part_cut p names)))

  cut_within : (p q : Part) → part_cut p names ≡ Some q → IsWithin q.senders names
  cut_within p q e x h = (and_both (has p.senders x) (has names x) (sym (has-cut senders p.senders names x) ∙ ap (λ (t : Names). has t x) (sym (cut_senders p q names e)) ∙ h)).1

  cuts_within : (ps : List Part) (q : Part) → In q (cuts names ps) → IsWithin q.senders names
  cuts_within ps q i = let p = in_flat_map (λ p. as_list (part_cut p names)) q ps i in cut_within p.0 q (in_as_list (part_cut p.0 names) q p.2)

  requests_within : (ps : List Part) → IsWithin (names_of_requests (each unwalled (cuts names ps))) names
  requests_within ps x h =
      let r = in_flat_map (λ r. keys r.part.senders) x (each unwalled (cuts names ps)) (set_of_in senders _ x h) in
      let p = in_each unwalled r.0 (cuts names ps) r.1 in
      cuts_within ps p.0 p.1 x (in_named p.0 x (subst (λ (z : Request). In x (keys z.part.senders)) p.2 r.2))

  -- there is room for the next
  pub room : (st : StyleKind) (ps : List Part) (p q : Part) → size names ≤ 16 → part_cut p names ≡ Some q → size (union (names_of_tally (tally_of st (each unwalled (cuts names ps)))) q.senders) ≤ 16
  room st ps p q few e =
      merger_has_room st (each unwalled (cuts names ps)) q
      (let le = size_within senders (union (names_of_requests (each unwalled (cuts names ps))) q.senders) names (union_least (names_of_requests (each unwalled (cuts names ps))) q.senders names (requests_within ps) (cut_within p q e)) in omega arith)
