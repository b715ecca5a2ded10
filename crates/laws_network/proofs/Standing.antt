-- Interfaces of a node are ends of the network, and its routes are the trees.
use Rattle.std.proofs.Common.{◌≡◌, ℕ, zero, suc, ◌<◌, List, [], ◌∷◌, length, Bool, true, false, cond, Option, None, Some, inl, inr, ⊎_elim, arith, sym, refl, ap, subst, ◌∙◌}
use Rattle.std.specs.Prelude.{slice_get, map as each, ◌==◌, ◌&&◌, ◌^◌, not}
use Rattle.std.specs.Int.{bit_at}
use Rattle.std.proofs.lemmas.Bool.{cases_eq}
use Rattle.std.proofs.lemmas.Nat.Bits.{bit_at_or, bit_at-zero, bit_at-pow_same, bit_at-pow_other, bit_at-lt}
use Rattle.std.proofs.lemmas.Option.{slice_get_within}
use Rattle.rsvp_base.specs.declared.iface.Iface.{Iface}
use Rattle.rsvp_base.specs.declared.addr.Addr.{Addr}
use Rattle.rsvp_base.specs.declared.session.Sender.{Sender}
use Rattle.rsvp_base.specs.declared.session.Session.{Session}
use Rattle.rsvp_base.specs.Members.{In}
use Rattle.rsvp_base.proofs.Members.{in_each, to_each, in_filter}
use Rattle.rsvp_base.proofs.SetLaws.{and_both, and_made}
use Rattle.tree_model.specs.Goals.{addr_of, addr_of_end}
use Rattle.network_model.specs.RouterRules.declared.route.Route.{Route}
use Rattle.network_model.specs.RouterRules.NodeConfig.{NodeConfig, addr_of as own_of, own, is_addr, is_iface, is_in, is_out, route_in, comes_in, goes_out}
use Rattle.tree_model.specs.declared.hops.End.{End}
use Rattle.tree_model.specs.declared.hops.LinkHop.{LinkHop}
use Rattle.tree_model.specs.Networks.{Net, node_of, ends_of, end_at, iface_of, among, link_of, peers}
use Rattle.tree_model.specs.Trees.{tree, iface_in, inward, outward}
use Rattle.tree_model.specs.Valid.{IsValid}
use Rattle.tree_model.proofs.Following.{same_number, number_same, addr_same, addr_itself}
use Rattle.tree_model.proofs.Ifaces.{interfaces_are_ends}
use Rattle.tree_model.proofs.Links.{among_in, of_own_link, hop_linked}
use Rattle.tree_model.proofs.TreeLaws.{out_told, way_in_told}
use Rattle.network_model.specs.Worlds.{bits_of, route_of, with_iface, ifaces_at, config_of}

-- ---- numbers as bits
pub bits_told : (is : List ℕ) (i : ℕ) → bit_at (bits_of is) i ≡ 1 → In i is
bits_told [] i e = let z = bit_at-zero i in absurd (omega arith)
bits_told (k ∷ is) i e =
    elim (cases_eq i k) [
      | inl same ↦ inl same
      | inr ne ↦
          let or = bit_at_or (bits_of is) (2 ^ k) i in
          let other = bit_at-pow_other k i ne in
          inr (bits_told is i (omega arith))
    ]

pub bits_made : (is : List ℕ) (i : ℕ) → In i is → bit_at (bits_of is) i ≡ 1
bits_made [] i j = absurd j
bits_made (k ∷ is) i j =
    let or = bit_at_or (bits_of is) (2 ^ k) i in
    let a = bit_at-lt (bits_of is) i in
    let b = bit_at-lt (2 ^ k) i in
    ⊎_elim
    (λ (same : i ≡ k). let set : bit_at (2 ^ k) i ≡ 1 = subst (λ (z : ℕ). bit_at (2 ^ k) z ≡ 1) (sym same) (bit_at-pow_same k) in omega arith)
    (λ (old : In i is). let set = bits_made is i old in omega arith) j

-- ---- places of lists
pub some_at : {A : Type 0} (xs : List A) (k : ℕ) → k < length xs → (x : A) × (slice_get xs k ≡ Some x)
some_at [] k lt = absurd (omega arith)
some_at (x ∷ xs) zero lt = (x, refl)
some_at (x ∷ xs) (suc k) lt = some_at xs k (omega arith)

pub place_in : {A : Type 0} (x : A) (xs : List A) → In x xs → (k : ℕ) × (slice_get xs k ≡ Some x)
place_in x [] i = absurd i
place_in x (y ∷ ys) i = ⊎_elim (λ (e : x ≡ y). (0, ap Some (sym e))) (λ (j : In x ys). let r = place_in x ys j in (suc r.0, r.1)) i

-- ---- interfaces of the ends of a list
with_some : (o : Option End) (x : End) (is : List Iface) → o ≡ Some x → with_iface o is ≡ x.iface ∷ is
with_some o x is e = ap (λ (p : Option End). with_iface p is) e

ifaces_length : (ends : List End) (es : List ℕ) → ((e : ℕ) → In e es → e < length ends) → length (ifaces_at ends es) ≡ length es
ifaces_length ends [] inside = refl
ifaces_length ends (d ∷ es) inside =
    let x = some_at ends d (inside d (inl refl)) in
    ap length (with_some (slice_get ends d) x.0 (ifaces_at ends es) x.1) ∙ ap suc (ifaces_length ends es (λ e j. inside e (inr j)))

iface_there : (ends : List End) (es : List ℕ) → ((e : ℕ) → In e es → e < length ends) → (i e : ℕ) → slice_get es i ≡ Some e
    → (x : End) × (slice_get ends e ≡ Some x) × (slice_get (ifaces_at ends es) i ≡ Some x.iface)
iface_there ends [] inside i e h = absurd (cc)
iface_there ends (d ∷ es) inside zero e h =
    let x = some_at ends d (inside d (inl refl)) in
    let same : d ≡ e = cc in
    (x.0, subst (λ (z : ℕ). slice_get ends z ≡ Some x.0) same x.1, ap (λ (is : List Iface). slice_get is 0) (with_some (slice_get ends d) x.0 (ifaces_at ends es) x.1))
iface_there ends (d ∷ es) inside (suc k) e h =
    let x = some_at ends d (inside d (inl refl)) in
    let r = iface_there ends es (λ z j. inside z (inr j)) k e h in
    (r.0, r.1, ap (λ (is : List Iface). slice_get is (suc k)) (with_some (slice_get ends d) x.0 (ifaces_at ends es) x.1) ∙ r.2)

-- ---- routes
either_addr : (a b c d : Addr) → (is_addr a b && is_addr c d) ≡ true → (a ≡ b) × (c ≡ d)
either_addr a b c d t = let r = and_both (is_addr a b) (is_addr c d) t in (addr_same a b r.0, addr_same c d r.1)

pub route_told : (net : Net) (n : ℕ) (ts : List (Addr × Addr)) (g s : Addr) (r : Route) → route_in (each (route_of net n) ts) g s ≡ Some r → r ≡ route_of net n (g, s)
route_told net n [] g s r e = absurd (cc)
route_told net n (t ∷ ts) g s r e = by (is_addr t.0 g && is_addr t.1 s) refl (route_told net n ts g s r) e
  where
    by : (b : Bool) → (is_addr t.0 g && is_addr t.1 s) ≡ b → (route_in (each (route_of net n) ts) g s ≡ Some r → r ≡ route_of net n (g, s))
        → cond b (Some (route_of net n t)) (route_in (each (route_of net n) ts) g s) ≡ Some r → r ≡ route_of net n (g, s)
    by true h rest e = let same = either_addr t.0 g t.1 s h in let is : route_of net n t ≡ r = cc in sym is ∙ ap (route_of net n) (λ i. (same.0 i, same.1 i))
    by false h rest e = rest e

pub route_made : (net : Net) (n : ℕ) (ts : List (Addr × Addr)) (g s : Addr) → In (g, s) ts → route_in (each (route_of net n) ts) g s ≡ Some (route_of net n (g, s))
route_made net n [] g s i = absurd i
route_made net n (t ∷ ts) g s i = by (is_addr t.0 g && is_addr t.1 s) refl (route_made net n ts g s)
  where
    by : (b : Bool) → (is_addr t.0 g && is_addr t.1 s) ≡ b → (In (g, s) ts → route_in (each (route_of net n) ts) g s ≡ Some (route_of net n (g, s)))
        → cond b (Some (route_of net n t)) (route_in (each (route_of net n) ts) g s) ≡ Some (route_of net n (g, s))
    by true h rest = let same = either_addr t.0 g t.1 s h in ap (λ (z : Addr × Addr). Some (route_of net n z)) (λ i. (same.0 i, same.1 i))
    by false h rest =
        ⊎_elim
        (λ (e : (g, s) ≡ t).
        let yes : (is_addr t.0 g && is_addr t.1 s) ≡ true = subst (λ (z : Addr × Addr). (is_addr z.0 g && is_addr z.1 s) ≡ true) e
        (and_made (is_addr g g) (is_addr s s) (addr_itself g) (addr_itself s)) in
        let no : true ≡ false = sym yes ∙ h in absurd (cc))
        (λ (j : In (g, s) ts). rest j) i

-- ---- a node of a valid network
module _ (q : ℕ) (net : Net) (trees : List (Addr × Addr)) (n : ℕ) where
  abbrev place : NodeConfig
  place = config_of q net trees n

  of_node : (e : ℕ) → In e (ends_of net.ends n) → e < length net.ends
  of_node e i = let k = place_in e (ends_of net.ends n) i in ((interfaces_are_ends net).iface_of_end n k.0 e k.1).0

  pub own_end : (i e : ℕ) → end_at net.ends n i ≡ Some e → own place i ≡ addr_of net e
  own_end i e h =
      let x = iface_there net.ends (ends_of net.ends n) of_node i e h in
      ap own_of x.2 ∙ sym (ap addr_of_end x.1)

  pub own_iface : (i e : ℕ) → end_at net.ends n i ≡ Some e → (x : End) × (slice_get net.ends e ≡ Some x) × (slice_get place.ifaces i ≡ Some x.iface)
  own_iface i e h = iface_there net.ends (ends_of net.ends n) of_node i e h

  pub end_of : (i : ℕ) → i < length place.ifaces → (e : ℕ) × (end_at net.ends n i ≡ Some e)
  end_of i lt = let same = ifaces_length net.ends (ends_of net.ends n) of_node in some_at (ends_of net.ends n) i (omega arith)

  pub iface_less : (i e : ℕ) → end_at net.ends n i ≡ Some e → i < length place.ifaces
  iface_less i e h = let same = ifaces_length net.ends (ends_of net.ends n) of_node in let lt = slice_get_within (ends_of net.ends n) i e h in omega arith

  -- the tree comes in by the interface of the end by which it comes in
  pub comes_in_told : (s : Session) (i : ℕ) (x : Sender) → comes_in place s i x ≡ true → (e : ℕ) × (inward net n s.group x.addr ≡ Some e) × (iface_of net.ends e ≡ i)
  comes_in_told s i x h = by (route_in place.routes s.group x.addr) refl h
    where
      by_end : (o : Option ℕ) → inward net n s.group x.addr ≡ o → is_iface (iface_in net.ends o) i ≡ true → (e : ℕ) × (inward net n s.group x.addr ≡ Some e) × (iface_of net.ends e ≡ i)
      by_end None t h = absurd (cc)
      by_end (Some e) t h = (e, t, same_number (iface_of net.ends e) i h)

      by : (o : Option Route) → route_in place.routes s.group x.addr ≡ o → is_in o i ≡ true → (e : ℕ) × (inward net n s.group x.addr ≡ Some e) × (iface_of net.ends e ≡ i)
      by None t h = absurd (cc)
      by (Some r) t h =
          let is = route_told net n trees s.group x.addr r t in
          by_end (inward net n s.group x.addr) refl (subst (λ (z : Route). is_iface z.inward i ≡ true) is h)

  pub comes_in_made : (s : Session) (e : ℕ) (x : Sender) → In (s.group, x.addr) trees → inward net n s.group x.addr ≡ Some e → comes_in place s (iface_of net.ends e) x ≡ true
  comes_in_made s e x there h =
      ap (λ (o : Option Route). is_in o (iface_of net.ends e)) (route_made net n trees s.group x.addr there)
      ∙ ap (λ (o : Option ℕ). is_iface (iface_in net.ends o) (iface_of net.ends e)) h
      ∙ number_same (iface_of net.ends e) (iface_of net.ends e) refl

  -- and goes out by those of the ends by which it leaves
  pub goes_out_told : (s : Session) (i : ℕ) (x : Sender) → goes_out place s i x ≡ true → (e : ℕ) × In e (outward net n s.group x.addr) × (iface_of net.ends e ≡ i)
  goes_out_told s i x h = by (route_in place.routes s.group x.addr) refl h
    where
      by : (o : Option Route) → route_in place.routes s.group x.addr ≡ o → is_out o i ≡ true → (e : ℕ) × In e (outward net n s.group x.addr) × (iface_of net.ends e ≡ i)
      by None t h = absurd (cc)
      by (Some r) t h =
          let is = route_told net n trees s.group x.addr r t in
          let bit : bit_at (bits_of (each (iface_of net.ends) (outward net n s.group x.addr))) i ≡ 1 = same_number _ 1 (subst (λ (z : Route). (bit_at z.outward i == 1) ≡ true) is h) in
          let e = in_each (iface_of net.ends) i (outward net n s.group x.addr) (bits_told _ i bit) in
          (e.0, e.1, sym e.2)

  pub goes_out_made : (s : Session) (e : ℕ) (x : Sender) → In (s.group, x.addr) trees → In e (outward net n s.group x.addr) → goes_out place s (iface_of net.ends e) x ≡ true
  goes_out_made s e x there h =
      ap (λ (o : Option Route). is_out o (iface_of net.ends e)) (route_made net n trees s.group x.addr there)
      ∙ number_same _ 1 (bits_made (each (iface_of net.ends) (outward net n s.group x.addr)) (iface_of net.ends e) (to_each (iface_of net.ends) e (outward net n s.group x.addr) h))

-- ---- hops go between ends that are there
link_member : (links : List (List ℕ)) (e x : ℕ) → In x (link_of links e) → (l : List ℕ) × In l links × In x l
link_member [] e x i = absurd i
link_member (l ∷ ls) e x i = by (among e l) (link_member ls e x) i
  where
    by : (b : Bool) → (In x (link_of ls e) → (m : List ℕ) × In m ls × In x m) → In x (cond b l (link_of ls e)) → (m : List ℕ) × In m (l ∷ ls) × In x m
    by true rest i = (l, inl refl, i)
    by false rest i = let r = rest i in (r.0, inr r.1, r.2)

module _ (net : Net) (valid : IsValid net) where
  pub peer_there : (a e : ℕ) → In e (peers net.links a) → e < length net.ends
  peer_there a e i =
      let l = link_member net.links a e (in_filter (λ x. not (x == a)) e (link_of net.links a) i).0 in
      valid.ends_of_links l.0 e l.1 l.2

  pub to_there : (g s : Addr) (h : LinkHop) → In h (tree net.hops g s) → h.to < length net.ends
  to_there g s h i = peer_there h.from h.to (hop_linked net valid g s h i)

  -- an end whose link has another one is there
  pub linked_there : (a e : ℕ) → In e (peers net.links a) → a < length net.ends
  linked_there a e i =
      let linked = (in_filter (λ x. not (x == a)) e (link_of net.links a) i).0 in
      let own = among_in a (link_of net.links a) (of_own_link net.links a e linked) in
      let l = link_member net.links a a own in
      valid.ends_of_links l.0 a l.1 l.2

  pub from_there : (g s : Addr) (h : LinkHop) → In h (tree net.hops g s) → h.from < length net.ends
  from_there g s h i = linked_there h.from h.to (hop_linked net valid g s h i)

  pub inward_there : (n e : ℕ) (g s : Addr) → inward net n g s ≡ Some e → (e < length net.ends) × (node_of net.ends e ≡ n)
  inward_there n e g s is =
      let h = way_in_told net valid n e g s is in
      (subst (λ (z : ℕ). z < length net.ends) h.2 (to_there g s h.0 h.1), h.3)

-- an end is known by its node and its interface
pub same_end : (net : Net) (d e : ℕ) → d < length net.ends → e < length net.ends → node_of net.ends d ≡ node_of net.ends e → iface_of net.ends d ≡ iface_of net.ends e → d ≡ e
same_end net d e a b node iface =
    let x = (interfaces_are_ends net).end_of_iface d a in
    let y = (interfaces_are_ends net).end_of_iface e b in
    let z : Some d ≡ Some e = sym x ∙ ap (λ (k : ℕ). end_at net.ends k (iface_of net.ends d)) node ∙ ap (λ (k : ℕ). end_at net.ends (node_of net.ends e) k) iface ∙ y in
    cc

-- the end by which a tree leaves a node, from its interface
pub way_out : (q : ℕ) (net : Net) (trees : List (Addr × Addr)) (n : ℕ) → IsValid net → (s : Session) (i : ℕ) (x : Sender) → i < length (config_of q net trees n).ifaces
    → goes_out (config_of q net trees n) s i x ≡ true
    → (e : ℕ) × (end_at net.ends n i ≡ Some e) × (node_of net.ends e ≡ n) × In e (outward net n s.group x.addr)
way_out q net trees n valid s i x lt way =
    let e = end_of q net trees n i lt in
    let of = (interfaces_are_ends net).iface_of_end n i e.0 e.1 in
    let out = goes_out_told q net trees n s i x way in
    let h = out_told net n out.0 s.group x.addr out.1 in
    let inside : out.0 < length net.ends = subst (λ (z : ℕ). z < length net.ends) h.2 (from_there net valid s.group x.addr h.0 h.1) in
    let same : out.0 ≡ e.0 = same_end net out.0 e.0 inside of.0 (h.3 ∙ sym of.1) (out.2 ∙ sym of.2) in
    (e.0, e.1, of.1, subst (λ (z : ℕ). In z (outward net n s.group x.addr)) same out.1)
