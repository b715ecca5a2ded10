-- Once advertisements have settled, the paths that came by an end keep what is demanded there, so that an `adverts` line writes it.
use Rattle.std.proofs.Common.{◌≡◌, ℕ, ◌<◌, List, [], ◌∷◌, length, Bool, true, false, cond, is_some, Option, None, Some, refl, sym, ap, subst, ◌∙◌}
use Rattle.std.specs.Prelude.{◌==◌, slice_get, map as each}
use Rattle.std.specs.List.{cons_option, filter, filter_map, flat_map, range_with_len}
use Rattle.std.specs.Option.{option_map}
use Rattle.std.proofs.lemmas.Option.{slice_get_within}
use Rattle.rsvp_base.specs.Members.{In}
use Rattle.rsvp_base.specs.Sets.{Set}
use Rattle.rsvp_base.specs.Table.{Table, changed, changed_rows, get, has, kept_row}
use Rattle.rsvp_base.specs.TokenBucket.{TokenBucket}
use Rattle.rsvp_base.proofs.Counts.{in_set_of, set_of_in}
use Rattle.rsvp_base.proofs.Members.{any_in, in_any, in_each, in_filter, to_each, to_filter}
use Rattle.rsvp_base.proofs.Tables.{get-changed, got_changed, same_table, then_do}
use Rattle.rsvp_messages.specs.RsvpObjects.declared.adspec.Adspec.{Adspec}
use Rattle.router_rules.specs.Adverts.{advert_row, adverts_at}
use Rattle.router_rules.specs.Facts.{Facts, PathState, SenderKey, sender_keys}
use Rattle.tree_model.specs.declared.hops.End.{End}
use Rattle.tree_model.specs.declared.hops.LinkHop.{LinkHop}
use Rattle.tree_model.specs.declared.locals.LocalSender.{LocalSender}
use Rattle.tree_model.specs.Networks.{end_at, iface_of, node_of, node_of_end}
use Rattle.tree_model.specs.Trees.{tree}
use Rattle.tree_model.proofs.Following.{number_same, same_number}
use Rattle.tree_model.proofs.Ifaces.{interfaces_are_ends}
use Rattle.network_model.specs.DemandTexts.{of_end}
use Rattle.network_model.specs.Locals.{IsLive, locals_of, sender_at}
use Rattle.network_model.specs.Runs.{adverts_report, end_report, node_facts, with_parts}
use Rattle.network_model.specs.Texts.{adverts_text}
use Rattle.network_model.specs.Worlds.{World, config_of}
use Rattle.network_model.proofs.NodeLocals.{is_live, sender_of_node}
use Rattle.laws_network.proofs.Known.{node_there, of_some}
use Rattle.settle_paths.proofs.LiveSenders.{live_listed}
use Rattle.settle_adverts.specs.Demanded.{HasSettledAdverts, SettledAdvertsAreDemanded, advertised_senders, comes_by, demanded_advert, demanded_adverts_at, end_adverts}
use Rattle.settle_adverts.specs.Adverts.{is_advertised, advert_at, advert_over}
use Rattle.settle_adverts.specs.Ways.{way}

-- two options are one where each gives what the other gives
same_option : {A : Type 0} (x y : Option A) → ((a : A) → x ≡ Some a → y ≡ Some a) → ((a : A) → y ≡ Some a → x ≡ Some a) → x ≡ y
same_option None None f g = refl
same_option None (Some b) f g = g b refl
same_option (Some a) y f g = sym (f a refl)

-- what a test lets through
let_through : {A : Type 0} (b : Bool) (x : Option A) (a : A) → cond b x None ≡ Some a → (b ≡ true) × (x ≡ Some a)
let_through true x a e = (refl, e)
let_through false x a e = cc

-- what is done whatever is there
then_same : {A B : Type 0} (x : Option A) (y : Option B) → is_some x ≡ true → then_do x (λ one. y) ≡ y
then_same None y e = cc
then_same (Some a) y e = refl

-- ---- the paths that came by an interface, as a table
abbrev kept_by : ℕ → SenderKey → PathState → Option Adspec
kept_by i k x = cond (x.iface == i) x.adspec None

rows_kept : (i : ℕ) (es : List (SenderKey × PathState)) → filter_map (advert_row i) es ≡ changed_rows (kept_by i) es
rows_kept i [] = refl
rows_kept i (e ∷ es) = by (e.1.iface == i) e.1.adspec ∙ ap (kept_row e.0 (kept_by i e.0 e.1)) (rows_kept i es)
  where
    by : (b : Bool) (a : Option Adspec) → cons_option (cond b (option_map (λ z. (e.0, z)) a) None) (filter_map (advert_row i) es) ≡ kept_row e.0 (cond b a None) (filter_map (advert_row i) es)
    by true None = refl
    by true (Some a) = refl
    by false a = refl

abbrev key_of : LocalSender → SenderKey
key_of x = (x.session, x.sender)

module _ (q : ℕ) (u : World) (s : HasSettledAdverts q u) where
  abbrev ours : Set sender_keys
  ours = advertised_senders u

  -- one of them is live, and advertised
  told_live : (k : SenderKey) → has ours k ≡ true → ((t : TokenBucket) × IsLive u k t) × (is_advertised u k ≡ true)
  told_live k h =
      let c = in_filter (is_advertised u) k (each key_of (locals_of u).senders) (set_of_in sender_keys (filter (is_advertised u) (each key_of (locals_of u).senders)) k h) in
      let x = in_each key_of k (locals_of u).senders c.0 in
      let r = sender_of_node u x.0 x.1 in
      let key : ◌≡◌ {A = SenderKey} r.1 k = sym (x.2 ∙ ap key_of r.5) in
      ((r.2, subst (λ (z : SenderKey). IsLive u z r.2) key (is_live u x.0.node r.0 r.1 r.2 r.3 r.4)), c.1)

  live_told : (k : SenderKey) (t : TokenBucket) → IsLive u k t → is_advertised u k ≡ true → has ours k ≡ true
  live_told k t live is =
      let at = live_listed u k t live in
      in_set_of sender_keys (filter (is_advertised u) (each key_of (locals_of u).senders)) k
      (to_filter (is_advertised u) k (each key_of (locals_of u).senders) (to_each key_of (sender_at at.0 k) (locals_of u).senders at.1) is)

  -- ---- at an end
  module _ (e : ℕ) (lt : e < length u.net.ends) (f : Facts) (at : slice_get u.nodes (node_of u.net.ends e) ≡ Some f) where
    abbrev n : ℕ
    n = node_of u.net.ends e

    abbrev i : ℕ
    i = iface_of u.net.ends e

    abbrev there : Table sender_keys Adspec
    there = changed (kept_by i) f.paths

    abbrev demanded : Table sender_keys Adspec
    demanded = demanded_adverts_at u.net e ours

    abbrev over : SenderKey → Option Adspec
    over k = advert_over u.net (way u.net k.0.group k.1.addr n)

    end_is : end_at u.net.ends n i ≡ Some e
    end_is = (interfaces_are_ends u.net).end_of_iface e lt

    -- what is kept is demanded
    kept_then : (k : SenderKey) (a : Adspec) → get there k ≡ Some a → get demanded k ≡ Some a
    kept_then k a h =
        let x = got_changed sender_keys (kept_by i) f.paths k a h in
        let b = let_through (x.0.iface == i) x.0.adspec a x.2 in
        let p = s.sound.facts n f k x.0 at x.1 in
        let same : p.end ≡ e = of_some p.end e (sym p.at ∙ ap (end_at u.net.ends n) (same_number x.0.iface i b.0) ∙ end_is) in
        let c = let_through (is_advertised u k) (over k) a (sym (s.exact.kept n f k x.0 at x.1) ∙ b.1) in
        let comes : comes_by u.net e k ≡ true =
        any_in (λ h. h.to == e) p.sound.hop (tree u.net.hops k.0.group k.1.addr) p.sound.there (number_same p.sound.hop.to e (p.sound.to ∙ same)) in
        get-changed sender_keys (λ k one. demanded_advert u.net e k) ours k
        ∙ then_same (get ours k) (demanded_advert u.net e k) (live_told k x.0.tspec p.sound.live c.0)
        ∙ ap (λ (z : Bool). cond z (over k) None) comes
        ∙ c.1

    -- and what is demanded is kept
    demanded_then : (k : SenderKey) (a : Adspec) → get demanded k ≡ Some a → get there k ≡ Some a
    demanded_then k a h =
        let x = got_changed sender_keys (λ k one. demanded_advert u.net e k) ours k a h in
        let c = let_through (comes_by u.net e k) (over k) a x.2 in
        let l = told_live k (ap is_some x.1) in
        let hop = in_any (λ h. h.to == e) (tree u.net.hops k.0.group k.1.addr) c.0 in
        let to : hop.0.to ≡ e = same_number hop.0.to e hop.2 in
        let p = s.there k l.0.0 hop.0 l.0.1 hop.1 in
        let facts : p.0.facts ≡ f = of_some p.0.facts f (sym p.0.node ∙ ap (λ (z : ℕ). slice_get u.nodes (node_of u.net.ends z)) to ∙ at) in
        let row : get f.paths k ≡ Some p.0.path = ap (λ (z : Facts). get z.paths k) (sym facts) ∙ p.0.there in
        let iface : p.0.path.iface ≡ i = p.0.iface ∙ ap (λ (z : ℕ). iface_of u.net.ends z) to in
        let adspec : p.0.path.adspec ≡ Some a =
        p.1 ∙ ap (λ (z : ℕ). advert_at u k (node_of u.net.ends z)) to ∙ ap (λ (z : Bool). cond z (over k) None) l.1 ∙ c.1 in
        get-changed sender_keys (kept_by i) f.paths k
        ∙ ap (λ (z : Option PathState). then_do z (kept_by i k)) row
        ∙ ap (λ (z : Bool). cond z p.0.path.adspec None) (number_same p.0.path.iface i iface)
        ∙ adspec

    adverts_are : adverts_at f i ≡ demanded.rows
    adverts_are =
        rows_kept i f.paths.rows
        ∙ ap (λ (m : Table sender_keys Adspec). m.rows) (same_table sender_keys there demanded (λ k. same_option (get there k) (get demanded k) (kept_then k) (demanded_then k)))

  -- ---- the text
  module _ (names : List (List ℕ)) where
    abbrev kept : ℕ → List ℕ → End → Facts → List ℕ
    kept e name x f = adverts_report (config_of q u.net u.trees x.node) name x (iface_of u.net.ends e) f

    end_is_demanded : (e : ℕ) → end_report q names adverts_report u e ≡ end_adverts names u.net ours e
    end_is_demanded e = by (slice_get names e) (slice_get u.net.ends e) refl
      where
        by : (name : Option (List ℕ)) (x : Option End) → slice_get u.net.ends e ≡ x
            → with_parts (kept e) name x (node_facts u x) ≡ of_end (λ name x. adverts_text name (demanded_adverts_at u.net e ours).rows) name x
        by None x at = refl
        by (Some name) None at = refl
        by (Some name) (Some x) at =
            let inside : e < length u.net.ends = slice_get_within u.net.ends e x at in
            let node : node_of u.net.ends e ≡ x.node = ap node_of_end at in
            let f = node_there q u s.bounds.net u e (record { bounds = s.bounds; same = record { net = refl; trees = refl; senders = λ n. refl; advertised = λ n. refl; locals = refl } }) inside in
            let row : slice_get u.nodes x.node ≡ Some f.0 = ap (λ (z : ℕ). slice_get u.nodes z) (sym node) ∙ f.1 in
            ap (with_parts (kept e) (Some name) (Some x)) row
            ∙ ap (adverts_text name) (adverts_are e inside f.0 f.1)

pub settled_adverts_are_demanded : SettledAdvertsAreDemanded
settled_adverts_are_demanded q u s names = λ j. flat_map (λ e. end_is_demanded q u s names e j) (range_with_len 0 (length u.net.ends))
