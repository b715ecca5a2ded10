-- What the ends of a network hold, one end more; and what the routers of a network say of it.
use Rattle.std.proofs.Common.{◌≡◌, ℕ, ◌+◌, ◌*◌, ◌^◌, ◌<◌, ◌≤◌, Bool, true, false, List, Option, None, Some, length, rules, refl, sym, ap, subst, ◌∙◌, arith}
use Rattle.std.specs.Prelude.{map as each, nat_lt, slice_get, sum_by, if◌then◌else◌}
use Rattle.std.specs.List.{range_with_len}
use Rattle.std.proofs.lemmas.List.{length-map}
use Rattle.std.proofs.lemmas.List.FromFn.{sum_by-map-range_with_len_more}
use Rattle.std.proofs.lemmas.Option.{slice_get_cases, slice_get_past}
use Rattle.rsvp_base.specs.Table.{empty, size}
use Rattle.router_rules.specs.Books.{book}
use Rattle.router_rules.specs.Facts.{Facts}
use Rattle.router_rules.specs.Flags.{entries_of, entry_at}
use Rattle.router_rules.specs.NodeConfig.{NodeConfig}
use Rattle.style_rules.specs.Lines.{BookTable, held}
use Rattle.tree_model.specs.Networks.{Net, iface_of}
use Rattle.tree_model.specs.declared.hops.End.{End}
use Rattle.network_model.specs.Runs.{node_facts}
use Rattle.network_model.specs.Worlds.{World}
use Rattle.network_replay.specs.Agreeing.{Agrees, NetworkState}
use Rattle.network_replay.specs.Following.{Seen}
use Rattle.grown_network.specs.Booked.{book_there, booked_up_to, books_up_to, end_book, one_booked}
use Rattle.grown_network.specs.declared.summary.Booked.{Booked}

-- where nothing is, the list has ended
pub ended_by : {A : Type 0} (xs : List A) (k : ℕ) → slice_get xs k ≡ None → length xs ≤ k
ended_by xs k none = search (rules, slice_get_cases xs k)

-- ---- the book of an end
module _ (net : Net) (w : World) (end : ℕ) where
  pub no_end : slice_get net.ends end ≡ None → end_book net w end ≡ empty
  no_end none = ap (λ (o : Option End). book_there (node_facts w o) (iface_of net.ends end)) none

  pub no_node : (x : End) → slice_get net.ends end ≡ Some x → length w.nodes ≤ x.node → end_book net w end ≡ empty
  no_node x there past =
      ap (λ (o : Option End). book_there (node_facts w o) (iface_of net.ends end)) there ∙ ap (λ (f : Option Facts). book_there f (iface_of net.ends end)) (slice_get_past w.nodes x.node past)

  pub some_node : (x : End) (f : Facts) (iface : ℕ) → slice_get net.ends end ≡ Some x → slice_get w.nodes x.node ≡ Some f → iface ≡ iface_of net.ends end → book f iface ≡ end_book net w end
  some_node x f iface there is by =
      ap (book f) by ∙ sym (ap (λ (o : Option End). book_there (node_facts w o) (iface_of net.ends end)) there ∙ ap (λ (g : Option Facts). book_there g (iface_of net.ends end)) is)

pub entries_counted : (p : NodeConfig) (f : Facts) (iface : ℕ) → length (entries_of p f iface) ≡ size (book f iface)
unfolding entries_of
entries_counted p f iface = length-map (book f iface).rows (entry_at p f iface)

-- ---- one end more
abbrev pub with_end : Booked → ℕ → ℕ → Booked
with_end b entries rate = record { ends = b.ends + (if nat_lt 0 entries then 1 else 0); entries = b.entries + entries; held = b.held + rate }

pub one_more : (net : Net) (w : World) (end : ℕ) (old new : Booked) (entries rate : ℕ) → old ≡ booked_up_to net w end → entries ≡ size (end_book net w end) → rate ≡ held (end_book net w end)
    → new ≡ with_end old entries rate → new ≡ booked_up_to net w (end + 1)
one_more net w end old new entries rate so_far counted charged next =
    let f = end_book net w in
    let here : 0 + end ≡ end = omega arith in
    let ends = sum_by-map-range_with_len_more one_booked f 0 end end here in
    let all = sum_by-map-range_with_len_more (λ (b : BookTable). size b) f 0 end end here in
    let rates = sum_by-map-range_with_len_more held f 0 end end here in
    next ∙ (λ i. with_end (so_far i) (counted i) (charged i)) ∙ (λ i. record { ends = sym ends i; entries = sym all i; held = sym rates i })

-- it is not too much to count
pub record IsSmall (n : ℕ) (b : Booked) : Type 0 where
  pub ends : b.ends ≤ n
  pub entries : b.entries ≤ 3072 * n
  pub held : b.held ≤ n * 2 ^ 64

one_at_most : (b : Bool) → (if b then 1 else 0) ≤ 1
one_at_most true = omega arith
one_at_most false = omega arith

pub still_small : (n : ℕ) (old new : Booked) (entries rate : ℕ) → new ≡ with_end old entries rate → IsSmall n old → entries ≤ 3072 → rate < 2 ^ 64 → IsSmall (n + 1) new
still_small n old new entries rate next small few low =
    let one = one_at_most (nat_lt 0 entries) in
    let ends = small.ends in
    let all = small.entries in
    let rates = small.held in
    subst (IsSmall (n + 1)) (sym next) (record { ends = omega (arith, one, ends); entries = omega (arith, all, few); held = omega (arith, rates, low) })
