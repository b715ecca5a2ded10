-- What Paths, PathTears, ResvTears and ResvConfs do.
use Rattle.std.specs.Prelude.{◌≡◌, ℕ, ◌⊎◌, Bool, true, false, cond, ◌&&◌, List, [], ◌∷◌, Option, Some, None, refl}
use Rattle.std.proofs.Common.{sym, ap, ◌∙◌, inl, inr, ⊎_elim}
use Rattle.std.specs.List.{filter_map}
use Rattle.rsvp_base.specs.declared.session.Sender.{Sender}
use Rattle.rsvp_base.specs.declared.style.Unit.{Unit as UnitOf}
use Rattle.rsvp_base.specs.Keys.{pairs}
use Rattle.rsvp_base.specs.Members.{In}
use Rattle.rsvp_base.specs.Orders.{Names, senders, sessions, units}
use Rattle.rsvp_base.specs.declared.session.Session.{Session}
use Rattle.rsvp_base.specs.SessionLimits.{has_room_at}
use Rattle.rsvp_base.specs.Table.{empty, get, put_in, with_rows}
use Rattle.rsvp_base.specs.TokenBucket.{TokenBucket}
use Rattle.rsvp_base.proofs.Counts.{found_in, in_found}
use Rattle.rsvp_base.proofs.SetLaws.{and_both, and_made}
use Rattle.rsvp_base.proofs.Tables.{get-changed, got_changed, then_do}
use Rattle.rsvp_base.proofs.UnderLaws.{get-under}
use Rattle.router_rules.specs.RsvpMessages.declared.message.PathMsg.{PathMsg}
use Rattle.router_rules.specs.RsvpMessages.declared.message.PathTearMsg.{PathTearMsg}
use Rattle.router_rules.specs.RsvpMessages.declared.message.ResvConfMsg.{ResvConfMsg}
use Rattle.router_rules.specs.RsvpMessages.declared.message.ResvTearMsg.{ResvTearMsg}
use Rattle.router_rules.specs.RsvpMessages.Units.{ask_style, tear_names, tear_style}
use Rattle.router_rules.specs.Lines.{LineKey, NextHop, is_of_hop, line_keys, next_hops}
use Rattle.router_rules.specs.declared.answers.Heard.TheVariants as heard
use Rattle.router_rules.specs.declared.answers.Why.TheVariants as why
use Rattle.router_rules.specs.Asking.{act_resv_tear, left_of, names_one, stays, torn_resv, torn_resvs}
use Rattle.router_rules.specs.Confirming.{conf_on, confs_heard, confs_on, is_wish, speaks_of, with_confs}
use Rattle.router_rules.specs.Facts.{Facts, PathState, Resvs, ResvState, ResvTables, resvs_in, resvs_of, with_resvs}
use Rattle.router_rules.specs.Inputs.{ConfSend, only_heard}
use Rattle.router_rules.specs.Paths.{act_path, act_path_tear, is_path_by, learn, learn_inward, learnt, path_state, tear_path, torn_path, with_paths}
use Rattle.router_rules.specs.NodeConfig.{NodeConfig, comes_in}
use Rattle.laws_bounds.specs.RuleLaws.{IsLeft}
use Rattle.laws_bounds.proofs.Leaving.{as_it_was, left_told, table_put}
use Rattle.rsvp_base.proofs.Fronts.{in_filter_map}
use Rattle.laws_bounds.proofs.Lists.{got_with_rows, in_values, passed, some_same, to_values}
use Rattle.laws_bounds.proofs.Once.{given_rise, last_stands, last_told, someone_last}
use Rattle.laws_bounds.specs.MessageLaws.{ConfirmationsByWish, IsConfOn, PathsByTests, ResvTearsByNames}

-- ---- Paths
inward_is : (p : NodeConfig) (c e : ℕ) (m : PathMsg) (f : Facts) (x : Sender) (tspec : TokenBucket) (b : Bool) → m.sender ≡ Some (x, tspec) → comes_in p m.session e x ≡ b
    → act_path p c e m f ≡ with_paths f (learn_inward p c e m x tspec b f.paths)
inward_is p c e m f x tspec b s t = ap (λ w. with_paths f (learn p c e m w f.paths)) s ∙ ap (λ b. with_paths f (learn_inward p c e m x tspec b f.paths)) t

room_is : (p : NodeConfig) (c e : ℕ) (m : PathMsg) (f : Facts) (x : Sender) (tspec : TokenBucket) (b : Bool) → m.sender ≡ Some (x, tspec) → comes_in p m.session e x ≡ true
    → has_room_at senders (put_in f.paths (m.session, x) (path_state p c e m tspec)) m.session ≡ b
    → act_path p c e m f ≡ with_paths f (learnt b (put_in f.paths (m.session, x) (path_state p c e m tspec)) f.paths)
room_is p c e m f x tspec b s t r = inward_is p c e m f x tspec true s t ∙ ap (λ b. with_paths f (learnt b (put_in f.paths (m.session, x) (path_state p c e m tspec)) f.paths)) r

tear_is : (e : ℕ) (m : PathTearMsg) (f : Facts) (x : Sender) (w : Option PathState) (b : Bool) → m.sender ≡ Some x → get f.paths (m.session, x) ≡ w → is_path_by (e, m.hop.addr) w ≡ b
    → act_path_tear e m f ≡ with_paths f (torn_path b (m.session, x) f.paths)
tear_is e m f x w b s g t =
    ap (λ v. with_paths f (tear_path e m v f.paths)) s ∙ ap (λ v. with_paths f (torn_path (is_path_by (e, m.hop.addr) v) (m.session, x) f.paths)) g
    ∙ ap (λ b. with_paths f (torn_path b (m.session, x) f.paths)) t

pub paths_by_tests : PathsByTests
paths_by_tests =
    record {
      no_sender = λ p c e m f s. ap (λ w. with_paths f (learn p c e m w f.paths)) s;
      not_inward = λ p c e m f x tspec s t. inward_is p c e m f x tspec false s t;
      full = λ p c e m f x tspec s t r. room_is p c e m f x tspec false s t r;
      learnt = λ p c e m f x tspec s t r. room_is p c e m f x tspec true s t r;
      tear_of_nobody = λ e m f s. ap (λ w. with_paths f (tear_path e m w f.paths)) s;
      tear_of_none = λ e m f x s g. tear_is e m f x None false s g refl;
      tear_elsewhere = λ e m f x path s g t. tear_is e m f x (Some path) false s g t;
      torn = λ e m f x path s g t. tear_is e m f x (Some path) true s g t;
    }

-- ---- ResvTears
-- the table that a ResvTear changes, after it
torn_table : (e : ℕ) (m : ResvTearMsg) (f : Facts) → resvs_of (tear_style m.tear) (act_resv_tear e m f).facts
    ≡ torn_resvs (names_one m.session (e, m.hop.addr) (tear_names m.tear) (resvs_of (tear_style m.tear) f)) m.session (e, m.hop.addr) (tear_names m.tear) (resvs_of (tear_style m.tear) f)
torn_table e m f = table_put (tear_style m.tear) _ f.resvs

module _ (e : ℕ) (m : ResvTearMsg) where
  torn_source : (t : Resvs) (k : LineKey) (x : ResvState) (b : Bool) → get (torn_resvs b m.session (e, m.hop.addr) (tear_names m.tear) t) k ≡ Some x
      → (r : ResvState) × (get t k ≡ Some r) × ((x ≡ r) ⊎ IsLeft (stays (tear_names m.tear)) r x)
  torn_source t k x false h = (x, h, inl refl)
  torn_source t k x true h =
      let g = got_changed line_keys (torn_resv m.session (e, m.hop.addr) (tear_names m.tear)) t k x h in (g.0, g.1, by g.0 (is_of_hop m.session (e, m.hop.addr) k) g.2)
    where
      by : (r : ResvState) (b : Bool) → cond b (left_of (stays (tear_names m.tear)) r) (Some r) ≡ Some x → (x ≡ r) ⊎ IsLeft (stays (tear_names m.tear)) r x
      by r true h = inr (left_told (stays (tear_names m.tear)) r x h)
      by r false h = inl (sym (some_same r x h))

  torn_other : (t : Resvs) (k : LineKey) (b : Bool) → is_of_hop m.session (e, m.hop.addr) k ≡ false → get (torn_resvs b m.session (e, m.hop.addr) (tear_names m.tear) t) k ≡ get t k
  torn_other t k false h = refl
  torn_other t k true h = get-changed line_keys (torn_resv m.session (e, m.hop.addr) (tear_names m.tear)) t k ∙ by (get t k)
    where
      by : (w : Option ResvState) → then_do w (torn_resv m.session (e, m.hop.addr) (tear_names m.tear) k) ≡ w
      by None = refl
      by (Some r) = ap (λ b. cond b (left_of (stays (tear_names m.tear)) r) (Some r)) h

tear_own : (s : Session) (hop : NextHop) (names : Option Names) (t : Resvs) (k : LineKey) (r : ResvState) (b : Bool) → b ≡ true → is_of_hop s hop k ≡ true → get t k ≡ Some r
    → get (torn_resvs b s hop names t) k ≡ left_of (stays names) r
tear_own s hop names t k r false e h g = cc
tear_own s hop names t k r true e h g =
    get-changed line_keys (torn_resv s hop names) t k ∙ ap (λ w. then_do w (torn_resv s hop names k)) g ∙ ap (λ b. cond b (left_of (stays names) r) (Some r)) h

tear_none : (e : ℕ) (m : ResvTearMsg) (f : Facts) → names_one m.session (e, m.hop.addr) (tear_names m.tear) (resvs_of (tear_style m.tear) f) ≡ false
    → act_resv_tear e m f ≡ only_heard (heard.Dropped why.NoState) f
tear_none e m f h =
    ap (λ (b : Bool). only_heard (cond b heard.Taken (heard.Dropped why.NoState)) (with_resvs (tear_style m.tear)
    (torn_resvs b m.session (e, m.hop.addr) (tear_names m.tear) (resvs_of (tear_style m.tear) f)) f)) h
    ∙ ap (λ (ts : ResvTables). only_heard (heard.Dropped why.NoState) (record f { resvs = ts })) (as_it_was (tear_style m.tear) f.resvs)

pub resv_tears_by_names : ResvTearsByNames
resv_tears_by_names =
    record {
      none = tear_none;
      own = λ e m f k r found h g. ap (λ (t : Resvs). get t k) (torn_table e m f) ∙ tear_own m.session (e, m.hop.addr) (tear_names m.tear) (resvs_of (tear_style m.tear) f) k r _ found h g;
      taken = λ e m f found. ap (λ (b : Bool). cond b heard.Taken (heard.Dropped why.NoState)) found;
      rest = λ e m f. refl;
      source = λ e m f k x h. torn_source e m (resvs_of (tear_style m.tear) f) k x _ (ap (λ (t : Resvs). get t k) (sym (torn_table e m f)) ∙ h);
      others = λ e m f k h. ap (λ (t : Resvs). get t k) (torn_table e m f) ∙ torn_other e m (resvs_of (tear_style m.tear) f) k _ h;
    }

-- ---- ResvConfs
-- whoever is told of a hop, is told the same
given_is : (m : ResvConfMsg) (y : (NextHop × UnitOf) × ResvState) (hop : NextHop) (s : ConfSend) → conf_on m y ≡ Some (hop, s) → s ≡ record { iface = hop.0; dst = hop.1; conf = m }
given_is m y hop s h =
    let q = passed (is_wish y.1.confirm m.confirm && speaks_of m.ask y.1.part.senders) (Some (y.0.0, record { iface = y.0.0.0; dst = y.0.0.1; conf = m })) (hop, s) h in
    let same = some_same {X = NextHop × ConfSend} (y.0.0, record { iface = y.0.0.0; dst = y.0.0.1; conf = m }) (hop, s) q.1 in
    ap (λ (z : NextHop × ConfSend). z.1) (sym same) ∙ ap (λ (z : NextHop × ConfSend). record { iface = z.0.0; dst = z.0.1; conf = m }) same

of_none : (f : Facts) (ss : List ConfSend) → ((s : ConfSend) → In s ss → ⊥) → with_confs f (confs_heard false ss) ≡ only_heard (heard.Dropped why.NoState) f
of_none f [] none = refl
of_none f (s ∷ ss) none = absurd (none s (inl refl))

of_some : (f : Facts) (s : ConfSend) (ss : List ConfSend) → In s ss → with_confs f (confs_heard false ss) ≡ record (only_heard heard.Taken f) { confs = ss }
of_some f s [] i = absurd i
of_some f s (z ∷ zs) i = refl

pub conf_told : (m : ResvConfMsg) (f : Facts) (s : ConfSend) → In s (confs_on m f) → IsConfOn m f s
conf_told m f s i =
    let rows = (resvs_in (ask_style m.ask) f m.session).rows in
    let v = in_values next_hops (with_rows (empty {o = next_hops}) (filter_map (conf_on m) rows)) s i in
    ⊎_elim (λ (none : get (empty {o = next_hops}) v.0 ≡ Some s). absurd (cc))
    (λ (j : In (v.0, s) (filter_map (conf_on m) rows)).
    let t = in_filter_map (conf_on m) (v.0, s) rows j in
    let q = passed (is_wish t.0.1.confirm m.confirm && speaks_of m.ask t.0.1.part.senders) (Some (t.0.0.0, record { iface = t.0.0.0.0; dst = t.0.0.0.1; conf = m })) (v.0, s) t.2 in
    let both = and_both _ _ q.0 in
    let same = some_same {X = NextHop × ConfSend} (t.0.0.0, record { iface = t.0.0.0.0; dst = t.0.0.0.1; conf = m }) (v.0, s) q.1 in
    record {
      hop = t.0.0.0;
      unit = t.0.0.1;
      resv = t.0.1;
      there = sym (get-under sessions (pairs next_hops units) (resvs_of (ask_style m.ask) f) m.session t.0.0)
          ∙ in_found (pairs next_hops units) (resvs_in (ask_style m.ask) f m.session) t.0.0 t.0.1 t.1;
      wanted = both.0;
      speaks = both.1;
      is = sym (ap (λ (z : NextHop × ConfSend). z.1) same);
    })
    (got_with_rows next_hops (filter_map (conf_on m) rows) (empty {o = next_hops}) v.0 s v.1)

pub conf_made : (m : ResvConfMsg) (f : Facts) (s : ConfSend) → IsConfOn m f s → In s (confs_on m f)
conf_made m f s q =
    let rows = (resvs_in (ask_style m.ask) f m.session).rows in
    let row : (NextHop × UnitOf) × ResvState = ((q.hop, q.unit), q.resv) in
    let there : In row rows = found_in (pairs next_hops units) (resvs_in (ask_style m.ask) f m.session) (q.hop, q.unit) q.resv
    (get-under sessions (pairs next_hops units) (resvs_of (ask_style m.ask) f) m.session (q.hop, q.unit) ∙ q.there) in
    let gives : conf_on m row ≡ Some (q.hop, s) =
    ap (λ b. cond b (Some (q.hop, record { iface = q.hop.0; dst = q.hop.1; conf = m })) None) (and_made _ _ q.wanted q.speaks) ∙ ap (λ z. Some (q.hop, z)) (sym q.is) in
    let r = someone_last next_hops (conf_on m) rows q.hop row s there gives in
    let g = last_stands next_hops (conf_on m) rows (empty {o = next_hops}) q.hop r.0 r.1 in
    let t = last_told next_hops (pairs next_hops units) (conf_on m) rows q.hop r.0 (resvs_in (ask_style m.ask) f m.session).sorted r.1 in
    let k = given_is m t.giver q.hop r.0 t.gives in
    to_values next_hops (with_rows (empty {o = next_hops}) (filter_map (conf_on m) rows)) q.hop s (g ∙ ap Some (k ∙ sym q.is))

pub confirmations_by_wish : ConfirmationsByWish
confirmations_by_wish =
    record {
      on = λ m f s. (conf_told m f s, conf_made m f s);
      once = λ m f. given_rise next_hops (conf_on m) (λ (s : ConfSend). (s.iface, s.dst)) (resvs_in (ask_style m.ask) f m.session).rows
          (λ y k s h. ap (λ (z : ConfSend). (z.iface, z.dst)) (given_is m y k s h));
      own = λ p m f own. ap (λ b. with_confs f (confs_heard b (confs_on m f))) own;
      nobody = λ p m f own none. ap (λ b. with_confs f (confs_heard b (confs_on m f))) own ∙ of_none f (confs_on m f) (λ s i. none s (conf_told m f s i));
      passed = λ p m f s own q. ap (λ b. with_confs f (confs_heard b (confs_on m f))) own ∙ of_some f s (confs_on m f) (conf_made m f s q);
    }
