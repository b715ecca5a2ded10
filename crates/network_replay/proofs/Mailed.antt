-- What nodes post is put in flight as the model puts it there.
use Rattle.std.proofs.Common.{◌≡◌, ℕ, ◌<◌, ◌≤◌, List, [], ◌∷◌, ◌++◌, Bool, true, false, length, take, refl, sym, ap, subst, ◌∙◌, ltb-true, ltb-false}
use Rattle.std.specs.Prelude.{map as each, fold, nat_lt, ◌||◌, ◌&&◌}
use Rattle.std.proofs.lemmas.List.{map-append, take_all}
use Rattle.std.specs.List.{All}
use Rattle.std.proofs.lemmas.Bool.{and_parts}
use Rattle.std.proofs.lemmas.List.Elements.{All-nil, All-cons, All-head, All-tail}
use Rattle.message_codec.specs.Spells.{Spells}
use Rattle.message_codec.specs.Encoding.{encoding}
use Rattle.message_codec.specs.Written.{is_in_range}
use Rattle.message_codec.proofs.Bytes.{in_range_spelt}
use Rattle.rsvp_messages.specs.Proper.{IsProper}
use Rattle.router_rules.specs.Inputs.{Send}
use Rattle.tree_model.specs.Networks.{Net, end_at}
use Rattle.network_flight.specs.Links.{goes_to, copy_to, copies_of, all_copies}
use Rattle.network_flight.specs.Worlds.{Item}
use Rattle.network_flight.specs.Parcels.{Parcel, parcel}
use Rattle.network_replay.specs.Posting.{Post, put_behind, parcels_of, all_parcels, with_post}
use Rattle.network_replay.proofs.Behind.{all_posted, few_put, none_behind, range_after, then_behind}
use Rattle.network_replay.specs.Agreeing.{IsItem, AreItems}
use Rattle.network_replay.specs.Following.{AreProper, AreSpelt}
use Rattle.network_replay.specs.Mailing.{items_sent, ArePut}
use Rattle.network_replay.proofs.Zips.{all_zip_append}

abbrev IsSpelt : Send → Type 0
IsSpelt s = Spells (encoding s.message) s.message

-- the copies of one send
copies_are : (born : ℕ) (s : Send) (es : List ℕ) → Spells (encoding s.message) s.message → AreItems (each (parcel s.dst (encoding s.message)) es) (each (λ x. x.0) (each (copy_to born s) es))
copies_are born s [] sp = tt
copies_are born s (x ∷ xs) sp = (record { end = refl; dst = refl; arrival = sp }, copies_are born s xs sp)

pub parcels_are : (net : Net) (born n : ℕ) (ss : List Send) → AreSpelt ss → AreItems (all_parcels net n ss) (items_sent net born n ss)
parcels_are net born n [] fit = tt
parcels_are net born n (s ∷ ss) fit =
    let es = goes_to net (end_at net.ends n s.iface) s.dst in
    let split : items_sent net born n (s ∷ ss) ≡ each (λ x. x.0) (copies_of net born n s) ++ items_sent net born n ss =
    map-append (λ (x : Item × Bool). x.0) (copies_of net born n s) (all_copies net born n ss) in
    subst (λ (xs : List Item). AreItems (all_parcels net n (s ∷ ss)) xs) (sym split)
    (all_zip_append IsItem (parcels_of net n s) (all_parcels net n ss) (each (λ x. x.0) (copies_of net born n s)) (items_sent net born n ss)
    (copies_are born s es (All-head IsSpelt s ss fit)) (parcels_are net born n ss (All-tail IsSpelt s ss fit)))

-- what a node posts
pub posted_put : (m new : Post) (n born : ℕ) (ss : List Send) → length m.flight ≤ 8192 → new ≡ fold with_post (record m { from = n }) ss → AreSpelt ss → ArePut m new (items_sent m.net born n ss)
posted_put m new n born ss le is fit =
    let whole : new ≡ record (put_behind (all_parcels m.net n ss) (record m { from = n })) { in_range = range_after m.in_range ss } = is ∙ all_posted ss (record m { from = n }) le in
    record {
      parcels = all_parcels m.net n ss;
      are = parcels_are m.net born n ss fit;
      net = ap (λ (x : Post). x.net) whole;
      flight = ap (λ (x : Post). x.flight) whole;
      full = ap (λ (x : Post). x.full) whole;
    }

-- what is posted by code is in range, so that what is proper of it is spelt
abbrev IsRanged : Send → Type 0
IsRanged s = is_in_range s.message ≡ true

abbrev IsSane : Send → Type 0
IsSane s = IsProper s.message

ranged : (b : Bool) (ss : List Send) → range_after b ss ≡ true → (b ≡ true) × All IsRanged ss
ranged b [] e = (e, All-nil IsRanged)
ranged b (s ∷ ss) e =
    let rest = ranged (b && is_in_range s.message) ss e in
    let here = and_parts b (is_in_range s.message) rest.0 in
    (here.0, All-cons IsRanged s ss here.1 rest.1)

spelt : (ss : List Send) → All IsRanged ss → AreProper ss → AreSpelt ss
spelt [] range proper = All-nil IsSpelt
spelt (s ∷ ss) range proper =
    All-cons IsSpelt s ss (in_range_spelt s.message (All-head IsRanged s ss range) (All-head IsSane s ss proper)) (spelt ss (All-tail IsRanged s ss range) (All-tail IsSane s ss proper))

pub posted_spelt : (m new : Post) (ss : List Send) → length m.flight ≤ 8192 → new ≡ fold with_post m ss → new.in_range ≡ true → AreProper ss → AreSpelt ss
posted_spelt m new ss le is range proper = spelt ss (ranged m.in_range ss (sym (ap (λ (x : Post). x.in_range) (is ∙ all_posted ss m le)) ∙ range)).1 proper

-- the wires stay, and there is room for what is in flight
pub posted_wires : (m new : Post) (ss : List Send) → length m.flight ≤ 8192 → new ≡ fold with_post m ss → new.net ≡ m.net
posted_wires m new ss le is = ap (λ (x : Post). x.net) (is ∙ all_posted ss m le)

pub posted_room : (m new : Post) (ss : List Send) → length m.flight ≤ 8192 → new ≡ fold with_post m ss → length new.flight ≤ 8192
posted_room m new ss le is = subst (λ (x : Post). length x.flight ≤ 8192) (sym (is ∙ all_posted ss m le)) (few_put (all_parcels m.net m.from ss) m)

-- nothing
pub nothing_put : (m new : Post) → length m.flight ≤ 8192 → new ≡ m → ArePut m new []
nothing_put m new le is =
    let none : new ≡ put_behind [] m = is ∙ sym (none_behind m le) in
    record { parcels = []; are = tt; net = ap (λ (x : Post). x.net) is; flight = ap (λ (x : Post). x.flight) none; full = ap (λ (x : Post). x.full) none }

-- one after the other
pub put_then : (a b c : Post) (xs ys : List Item) → ArePut a b xs → ArePut b c ys → ArePut a c (xs ++ ys)
put_then a b c xs ys p r =
    let twice = then_behind p.parcels r.parcels a in
    let flights : (put_behind r.parcels b).flight ≡ (put_behind r.parcels (put_behind p.parcels a)).flight = ap (λ (f : List Parcel). take 8192 (f ++ r.parcels)) p.flight in
    let fulls : (put_behind r.parcels b).full ≡ (put_behind r.parcels (put_behind p.parcels a)).full =
    ap (λ (f : List Parcel). b.full || nat_lt 8192 (length (f ++ r.parcels))) p.flight ∙ ap (λ (t : Bool). t || nat_lt 8192 (length ((put_behind p.parcels a).flight ++ r.parcels))) p.full in
    record {
      parcels = p.parcels ++ r.parcels;
      are = all_zip_append IsItem p.parcels r.parcels xs ys p.are r.are;
      net = r.net ∙ p.net;
      flight = r.flight ∙ flights ∙ ap (λ (x : Post). x.flight) twice;
      full = r.full ∙ fulls ∙ ap (λ (x : Post). x.full) twice;
    }

-- ---- whether there was room
module _ (a b : Post) (xs : List Item) (open_ : a.full ≡ false) (put : ArePut a b xs) where
  tested : b.full ≡ nat_lt 8192 (length (a.flight ++ put.parcels))
  tested = put.full ∙ ap (λ (t : Bool). t || nat_lt 8192 (length (a.flight ++ put.parcels))) open_

  pub all_are_put : b.full ≡ false → b.flight ≡ a.flight ++ put.parcels
  all_are_put e = put.flight ∙ take_all 8192 (a.flight ++ put.parcels) (ltb-false 8192 (length (a.flight ++ put.parcels)) (sym tested ∙ e))

  pub room_for_all : b.full ≡ false → length (a.flight ++ put.parcels) ≤ 8192
  room_for_all e = ltb-false 8192 (length (a.flight ++ put.parcels)) (sym tested ∙ e)

  pub no_room_for_all : b.full ≡ true → 8192 < length (a.flight ++ put.parcels)
  no_room_for_all e = ltb-true 8192 (length (a.flight ++ put.parcels)) (sym tested ∙ e)
