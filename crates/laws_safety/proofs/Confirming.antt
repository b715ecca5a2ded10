-- Where a ResvConf comes from: a Resv that arrives begins it, and then what was taken of the Resv stands; or it goes on.
use Rattle.std.proofs.Common.{◌≡◌, ℕ, ◌+◌, List, [], ◌∷◌, Bool, true, false, Option, None, Some, ◌⊎◌, inl, inr, ⊎_elim, arith, refl, sym, ap, subst, ◌∙◌}
use Rattle.std.specs.Prelude.{slice_get, ◌++◌, ◌==◌, map as each}
use Rattle.rsvp_base.specs.declared.addr.Addr.{Addr}
use Rattle.rsvp_base.specs.declared.part.Part.{Part}
use Rattle.rsvp_base.specs.declared.style.StyleKind.{StyleKind}
use Rattle.rsvp_base.specs.declared.style.StyleKind.TheVariants.{Wild}
use Rattle.rsvp_base.specs.declared.style.Unit.{Unit as UnitOf}
use Rattle.rsvp_base.specs.declared.style.Unit.TheVariants.{One}
use Rattle.rsvp_base.specs.Members.{In}
use Rattle.rsvp_base.specs.Orders.{Names, entry_keys, senders}
use Rattle.rsvp_base.specs.Sets.{IsWithin, cut, is_none}
use Rattle.rsvp_base.specs.Table.{get, kept}
use Rattle.rsvp_base.specs.TokenBucket.{TokenBucket}
use Rattle.rsvp_base.proofs.Fronts.{got_in}
use Rattle.rsvp_base.proofs.Members.{in_append, in_each, in_right, to_filter}
use Rattle.rsvp_base.proofs.SetLaws.{cut_within}
use Rattle.rsvp_messages.specs.declared.ask.Ask.{Ask}
use Rattle.rsvp_messages.specs.declared.ask.Ask.TheVariants as ask
use Rattle.rsvp_messages.specs.declared.message.Message.{Message}
use Rattle.rsvp_messages.specs.declared.message.Message.TheVariants as message
use Rattle.rsvp_messages.specs.declared.message.ResvConfMsg.{ResvConfMsg}
use Rattle.rsvp_messages.specs.declared.message.ResvMsg.{ResvMsg}
use Rattle.rsvp_messages.specs.Proper.{IsProperAsk}
use Rattle.rsvp_messages.specs.Units.{AskedUnit, ask_style, asked_units, fixed_unit, only}
use Rattle.style_rules.specs.CutLaws.{made_named, made_of}
use Rattle.style_rules.specs.Lines.{Line, LineKey, at_end, entry_key}
use Rattle.style_rules.specs.Parts.{IsPartAtMost, has_name}
use Rattle.style_rules.proofs.Merges.{merge_above}
use Rattle.flow_merge.specs.FlowOrder.{IsAtMost}
use Rattle.calm_rounds.specs.Hold.{Visited}
use Rattle.calm_rounds.specs.Machine.{Happens, run}
use Rattle.calm_rounds.proofs.Holding.{visited_start}
use Rattle.laws_bounds.specs.AskLaws.{IsTaken}
use Rattle.laws_bounds.specs.SendLaws.{ArePartsOf, IsAskedOf, IsConf, IsError, IsPath, IsPathTear, IsResv, IsResvTear, IsSend}
use Rattle.laws_bounds.proofs.Asks.{asks_of_parts, style_told}
use Rattle.laws_bounds.proofs.Receiving.{conf_told}
use Rattle.laws_bounds.proofs.Requesting.{books_and_lines}
use Rattle.laws_bounds.proofs.Stepping.{send_told}
use Rattle.laws_bounds.proofs.Tests.{addr_told}
use Rattle.laws_bounds.proofs.Wholes.{units_in_full}
use Rattle.laws_bounds.proofs.Wishing.{wishes_are_granted}
use Rattle.laws_bounds.proofs.Folding.{names_listed, unit_shape}
use Rattle.router_rules.specs.Act.{act, act_spelt, is_mine}
use Rattle.router_rules.specs.Asking.{Asker, act_resv, ask_of, asked_of, asker_of, matched, names_that_match, nothing_taken, style_conflict, taking, taking_of}
use Rattle.router_rules.specs.Books.{book, line_of, lines}
use Rattle.router_rules.specs.Confirming.{confs_heard, confs_on}
use Rattle.router_rules.specs.Facts.{Facts, ResvState, resvs_of}
use Rattle.router_rules.specs.Inputs.{Asked, Call, Came, Change, Clear, ConfSend, ErrMsg, Input, Moved, OfPath, OfResv, Send, Spelt, Unspelt, Wait}
use Rattle.router_rules.specs.Known.{known}
use Rattle.router_rules.specs.NodeConfig.{NodeConfig, goes_out, is_own, own}
use Rattle.router_rules.specs.Rule.{settled}
use Rattle.router_rules.specs.Sends.{confirmed, error_message, without_scope}
use Rattle.router_rules.specs.Steps.{sent_then}
use Rattle.tree_model.specs.declared.hops.End.{End}
use Rattle.tree_model.specs.Networks.{iface_of}
use Rattle.tree_model.proofs.Following.{number_same}
use Rattle.network_model.specs.Bounds.{AreBounds, IsProperArrival}
use Rattle.network_model.specs.Runs.{first_world}
use Rattle.network_model.specs.Steps.{At, ClearAt, Copy, Deliver, Flags, Adverts, Inject, Lose, Piece, Report, Reroute, Step, Trace, input_at}
use Rattle.network_model.specs.Steps.{machine, ms_of, net_after, outcome, outcome_of, rest, sent, step}
use Rattle.network_model.specs.Worlds.{Item, World, config_of}
use Rattle.network_model.proofs.Changing.{what_is_sent_is_copied}
use Rattle.network_model.proofs.Listing.{in_remove}
use Rattle.network_model.proofs.Machines.{in_rest}
use Rattle.network_model.proofs.Stepping.{facts_after_made}
use Rattle.laws_network.proofs.Known.{of_some}
use Rattle.laws_network.proofs.Runs.{each_world_of_a_run_is_within_bounds}
use Rattle.laws_safety.specs.Confirmations.{AConfirmationIsHeld, Begins, EachConfirmationHasBegun, IsAskedUnit, IsInjected, IsPassedOn, IsUnitHeld}
use Rattle.laws_safety.specs.Refusals.{IsResvAt}
use Rattle.laws_safety.proofs.Arrivals.{a_unit_that_passes}
use Rattle.laws_safety.proofs.Errors.{came_by}

-- ---- a reservation stands in the book of its interface
in_book : (g : Facts) (st : StyleKind) (k : LineKey) (r : ResvState) → get (resvs_of st g) k ≡ Some r → has_name r.part ≡ true
    → (part : Part) × (get (book g k.1.0.0) (record { session = k.0; style = st; unit = k.1.1 }) ≡ Some part) × IsPartAtMost r.part part
in_book g st k r there named =
    let line : Line = line_of st (k, r) in
    let among : In line (lines g) = (books_and_lines.each g line).1 (record { style = st; key = k; resv = r; there = there; is = refl }) in
    merge_above entry_keys entry_key (λ (l : Line). l.part) (at_end k.1.0.0 (lines g)) line (to_filter (λ (l : Line). l.end == k.1.0.0) line (lines g) among (number_same k.1.0.0 k.1.0.0 refl)) named

-- ---- what is confirmed is what was taken, without its SCOPE
record IsUnitOf (a : Ask) (u : AskedUnit) : Type 0 where
  unit : AskedUnit
  asks : In unit (asked_units a)
  same : u.unit ≡ unit.unit
  flow : u.flow ≡ unit.flow
  names : (listed : Names) → u.names ≡ Some listed → unit.names ≡ Some listed

whole : (a : Ask) (u : AskedUnit) → In u (asked_units a) → IsUnitOf a u
whole a u i = record { unit = u; asks = i; same = refl; flow = refl; names = λ listed e. e }

with_scope : (a : Ask) (u : AskedUnit) → In u (asked_units (without_scope a)) → IsUnitOf a u
with_scope (ask.Fixed list) u i = whole (ask.Fixed list) u i
with_scope (ask.Shared part) u i = whole (ask.Shared part) u i
with_scope (ask.Wild scope flow) u i =
    ⊎_elim
    (λ (is : u ≡ record { unit = One; names = None; flow = flow }).
    record {
      unit = record { unit = One; names = scope; flow = flow };
      asks = inl refl;
      same = ap (λ (z : AskedUnit). z.unit) is;
      flow = ap (λ (z : AskedUnit). z.flow) is;
      names = λ listed e. let no : ◌≡◌ {A = Option Names} None (Some listed) = sym (ap (λ (z : AskedUnit). z.names) is) ∙ e in absurd (cc);
    })
    (λ (no : ⊥). absurd no) i

same_style : (a : Ask) → ask_style (without_scope a) ≡ ask_style a
same_style (ask.Wild scope flow) = refl
same_style (ask.Fixed list) = refl
same_style (ask.Shared part) = refl

-- ---- who is listed
-- without its SCOPE a wildcard one lists nobody
not_wild : (a : Ask) (u : AskedUnit) → In u (asked_units (without_scope a)) → (listed : Names) → u.names ≡ Some listed → ask_style a ≡ Wild → ⊥
not_wild (ask.Fixed list) u i listed n e = absurd (cc)
not_wild (ask.Shared part) u i listed n e = absurd (cc)
not_wild (ask.Wild scope flow) u i listed n e =
    ⊎_elim
    (λ (is : u ≡ record { unit = One; names = None; flow = flow }).
    let no : ◌≡◌ {A = Option Names} None (Some listed) = sym (ap (λ (z : AskedUnit). z.names) is) ∙ n in absurd (cc))
    (λ (no : ⊥). no) i

-- and each other one lists senders
lists : (a : Ask) (u : AskedUnit) → In u (asked_units a) → (ask_style a ≡ Wild → ⊥) → (all : Names) × (u.names ≡ Some all)
lists (ask.Wild scope flow) u i other = absurd (other refl)
lists (ask.Fixed list) u i other = let r = in_each fixed_unit u list.rows i in (only r.0.0, ap (λ (z : AskedUnit). z.names) r.2)
lists (ask.Shared part) u i other =
    ⊎_elim (λ (is : u ≡ record { unit = One; names = Some part.senders; flow = part.flow }). (part.senders, ap (λ (z : AskedUnit). z.names) is)) (λ (no : ⊥). absurd no) i

-- so those of them that match are among them
listed_of : (a : Ask) (unit : AskedUnit) → In unit (asked_units a) → (ask_style a ≡ Wild → ⊥) → (all listed : Names) → listed ≡ names_that_match unit.names all
    → (names : Names) × (unit.names ≡ Some names) × IsWithin listed names
listed_of a unit i other all listed is =
    let l = lists a unit i other in
    let those : listed ≡ cut l.0 all = is ∙ ap (λ (z : Option Names). names_that_match z all) l.1 in
    (l.0, l.1, subst (λ (z : Names). IsWithin z l.0) (sym those) (cut_within senders l.0 all))

-- ---- what is taken of a Resv
module _ (p : NodeConfig) (c e : ℕ) (m : ResvMsg) (f : Facts) where
  abbrev o : Asker
  o = asker_of p c e m

  abbrev all : Names
  all = matched p f o

  abbrev us : List AskedUnit
  us = asked_units m.ask

  record TookUnit (u : UnitOf) (part : Part) : Type 0 where
    known : is_none (known f m.session) ≡ false
    style : style_conflict f m.session (ask_style m.ask) ≡ None
    taken : IsTaken p o f all (nothing_taken (resvs_of (ask_style m.ask) f) []) us u part

  took : (u : UnitOf) (part : Part) → get (taking p c e m f).taken u ≡ Some part → TookUnit u part
  took u part h = by (is_none (known f m.session)) (style_conflict f m.session (ask_style m.ask)) refl refl h
    where
      by : (b : Bool) (other : Option StyleKind) → is_none (known f m.session) ≡ b → style_conflict f m.session (ask_style m.ask) ≡ other
          → get (taking_of p o us f b other).taken u ≡ Some part → TookUnit u part
      by true other k s g = absurd (cc)
      by false (Some x) k s g = absurd (cc)
      by false None k s g =
          ⊎_elim (λ (no : None ≡ Some part). absurd (cc))
          (λ (t : IsTaken p o f all (nothing_taken (resvs_of (ask_style m.ask) f) []) us u part). record { known = k; style = s; taken = t })
          (units_in_full.takes p o f all (nothing_taken (resvs_of (ask_style m.ask) f) []) us u part g)

  asked_for : (u : UnitOf) (part : Part) (t : TookUnit u part) → In t.taken.unit us
  asked_for u part t =
      let at = t.taken.tried.at in subst (λ (zs : List AskedUnit). In t.taken.unit zs) (sym at.split) (in_right t.taken.unit at.front (t.taken.unit ∷ at.back) (inl refl))

  of_style : IsProperAsk m.ask → ArePartsOf (ask_style m.ask) (taking p c e m f).taken
  of_style proper u part h =
      let t = took u part h in
      let s = unit_shape m.ask proper all (λ x i. names_listed o.style (kept (goes_out p o.session o.iface) (known f o.session)) x i) t.taken.unit (asked_for u part t) part t.taken.tried.some in
      (s.style, sym s.unit ∙ sym t.taken.key)

-- ---- at a node: what an input makes it confirm
-- a Resv for this node begins it
record IsBegun (p : NodeConfig) (c : ℕ) (i : Input) (f : Facts) (m : ResvConfMsg) : Type 0 where
  iface : ℕ
  resv : ResvMsg
  came : i ≡ Came iface (own p iface) (Spelt (message.Resv resv))
  session : m.session ≡ resv.session
  wish : resv.confirm ≡ Some m.confirm
  here : m.err.node ≡ own p iface
  taken : Ask
  what : ask_of (ask_style resv.ask) (taking p c iface resv f).taken ≡ Some taken
  says : m.ask ≡ without_scope taken

record HasCome (i : Input) (m : ResvConfMsg) : Type 0 where
  iface : ℕ
  dst : Addr
  came : i ≡ Came iface dst (Spelt (message.ResvConf m))

not_error : (w : ErrMsg) (m : ResvConfMsg) → error_message w ≡ message.ResvConf m → ⊥
not_error (OfPath x) m e = cc
not_error (OfResv x) m e = cc

module _ (old p : NodeConfig) (c : ℕ) (i : Input) (f : Facts) where
  abbrev change : Change
  change = act p c i f

  abbrev after : Facts
  after = settled p c f change.facts

  conf_only : (s : Send) (m : ResvConfMsg) → s.message ≡ message.ResvConf m → IsSend old p f after change s → IsConf old p f after change s
  conf_only s m e k =
      ⊎_elim (λ (r : IsPathTear old p f after change s). let no = sym (ap (λ (z : Send). z.message) r.is) ∙ e in absurd (cc))
      (λ k.
      ⊎_elim (λ (r : IsResvTear old p f after change s). let no = sym (ap (λ (z : Send). z.message) r.is) ∙ e in absurd (cc))
      (λ k.
      ⊎_elim (λ (r : IsError old p f after change s). absurd (not_error r.error.error m (sym (ap (λ (z : Send). z.message) r.is) ∙ e)))
      (λ k.
      ⊎_elim (λ (r : IsConf old p f after change s). r)
      (λ k.
      ⊎_elim (λ (r : IsPath old p f after change s). let no = sym (ap (λ (z : Send). z.message) r.is) ∙ e in absurd (cc))
      (λ (r : IsResv old p f after change s). let no = sym (ap (λ (z : Send). z.message) r.is) ∙ e in absurd (cc)) k) k) k) k) k

-- who is told goes on from a ResvConf that came
module _ (p : NodeConfig) (c : ℕ) (f : Facts) (x : ConfSend) where
  told : (e : ℕ) (dst : Addr) (m : ResvConfMsg) (b : Bool) → In x (confs_heard b (confs_on m f)).0 → HasCome (Came e dst (Spelt (message.ResvConf m))) x.conf
  told e dst m b i = by b (confs_on m f) (λ j. j) i
    where
      by : (b : Bool) (ss : List ConfSend) → (In x ss → In x (confs_on m f)) → In x (confs_heard b ss).0 → HasCome (Came e dst (Spelt (message.ResvConf m))) x.conf
      by true ss among j = absurd j
      by false [] among j = absurd j
      by false (s ∷ ss) among j =
          let same : m ≡ x.conf = ap (λ (z : ConfSend). z.conf) (sym (conf_told m f x (among j)).is) in
          record { iface = e; dst = dst; came = λ k. Came e dst (Spelt (message.ResvConf (same k))) }

  of_message : (e : ℕ) (dst : Addr) (m : Message) (mine : Bool) → In x (act_spelt p c e m mine f).confs → HasCome (Came e dst (Spelt m)) x.conf
  of_message e dst m false i = absurd i
  of_message e dst (message.Path m) true i = absurd i
  of_message e dst (message.Resv m) true i = absurd i
  of_message e dst (message.PathErr m) true i = absurd i
  of_message e dst (message.ResvErr m) true i = absurd i
  of_message e dst (message.PathTear m) true i = absurd i
  of_message e dst (message.ResvTear m) true i = absurd i
  of_message e dst (message.ResvConf m) true i = told e dst m (is_own p m.confirm) i

  goes_on : (i : Input) → In x (act p c i f).confs → HasCome i x.conf
  goes_on (Call l) j = absurd j
  goes_on (Wait ms word) j = absurd j
  goes_on Clear j = absurd j
  goes_on Moved j = absurd j
  goes_on (Came e dst (Unspelt m)) j = absurd j
  goes_on (Came e dst (Spelt m)) j = of_message e dst m (is_mine p e dst m) j

no_wish : (a : Asked) → None ≡ Some a → ⊥
no_wish a e = cc

-- a wish comes with a Resv for this node
record IsWished (p : NodeConfig) (c : ℕ) (i : Input) (f : Facts) (a : Asked) : Type 0 where
  iface : ℕ
  resv : ResvMsg
  came : i ≡ Came iface (own p iface) (Spelt (message.Resv resv))
  confirm : Addr
  says : resv.confirm ≡ Some confirm
  is : a ≡ record { session = resv.session; confirm = confirm; iface = iface; hop = resv.hop.addr; taken = ask_of (ask_style resv.ask) (taking p c iface resv f).taken }

module _ (p : NodeConfig) (c : ℕ) (f : Facts) (a : Asked) where
  of_resv : (e : ℕ) (dst : Addr) (m : ResvMsg) → dst ≡ own p e → (act_resv p c e m f).asked ≡ Some a → IsWished p c (Came e dst (Spelt (message.Resv m))) f a
  of_resv e dst m mine h = by m.confirm refl h
    where
      by : (w : Option Addr) → m.confirm ≡ w → asked_of (asker_of p c e m) (ask_of (ask_style m.ask) (taking p c e m f).taken) w ≡ Some a
          → IsWished p c (Came e dst (Spelt (message.Resv m))) f a
      by None says g = absurd (no_wish a g)
      by (Some z) says g = record { iface = e; resv = m; came = λ k. Came e (mine k) (Spelt (message.Resv m)); confirm = z; says = says; is = sym (of_some _ a g) }

  by_message : (e : ℕ) (dst : Addr) (m : Message) (mine : Bool) → is_mine p e dst m ≡ mine → (act_spelt p c e m mine f).asked ≡ Some a → IsWished p c (Came e dst (Spelt m)) f a
  by_message e dst m false is h = absurd (no_wish a h)
  by_message e dst (message.Path m) true is h = absurd (no_wish a h)
  by_message e dst (message.Resv m) true is h = of_resv e dst m (addr_told dst (own p e) is) h
  by_message e dst (message.PathErr m) true is h = absurd (no_wish a h)
  by_message e dst (message.ResvErr m) true is h = absurd (no_wish a h)
  by_message e dst (message.PathTear m) true is h = absurd (no_wish a h)
  by_message e dst (message.ResvTear m) true is h = absurd (no_wish a h)
  by_message e dst (message.ResvConf m) true is h = absurd (no_wish a h)

  wished : (i : Input) → (act p c i f).asked ≡ Some a → IsWished p c i f a
  wished (Call l) h = absurd (no_wish a h)
  wished (Wait ms word) h = absurd (no_wish a h)
  wished Clear h = absurd (no_wish a h)
  wished Moved h = absurd (no_wish a h)
  wished (Came e dst (Unspelt m)) h = absurd (no_wish a h)
  wished (Came e dst (Spelt m)) h = by_message e dst m (is_mine p e dst m) refl h

conf_same : (x m : ResvConfMsg) → message.ResvConf x ≡ message.ResvConf m → x ≡ m
conf_same x m e = cc

conf_source : (old p : NodeConfig) (c : ℕ) (i : Input) (f : Facts) (s : Send) (m : ResvConfMsg) → In s (sent_then old p c i f) → s.message ≡ message.ResvConf m
    → IsBegun p c i f m ⊎ HasCome i m
conf_source old p c i f s m sends is =
    let r = conf_only old p c i f s m is (send_told old p c i f s sends) in
    let same : r.conf.conf ≡ m = conf_same r.conf.conf m (sym (ap (λ (z : Send). z.message) r.is) ∙ is) in
    ⊎_elim
    (λ (j : In r.conf (act p c i f).confs). inr (subst (HasCome i) same (goes_on p c f r.conf i j)))
    (λ (j : In r.conf (confirmed old p f (settled p c f (act p c i f).facts) (act p c i f).asked)).
    let g = (wishes_are_granted.granted old p f (settled p c f (act p c i f).facts) (act p c i f).asked r.conf).0 j in
    let w = wished p c f g.wish i g.wished in
    let conf : m ≡ record {
      session = g.wish.session;
      err = record { node = own p g.wish.iface; in_place = false; not_guilty = false; code = 0; value = 0 };
      confirm = g.wish.confirm;
      ask = without_scope g.taken;
    } = sym same ∙ ap (λ (z : ConfSend). z.conf) g.is in
    inl (record {
      iface = w.iface;
      resv = w.resv;
      came = w.came;
      session = ap (λ (z : ResvConfMsg). z.session) conf ∙ ap (λ (z : Asked). z.session) w.is;
      wish = w.says ∙ ap Some (sym (ap (λ (z : ResvConfMsg). z.confirm) conf ∙ ap (λ (z : Asked). z.confirm) w.is));
      here = ap (λ (z : ResvConfMsg). z.err.node) conf ∙ ap (λ (z : Asked). own p z.iface) w.is;
      taken = g.taken;
      what = sym (ap (λ (z : Asked). z.taken) w.is) ∙ g.what;
      says = ap (λ (z : ResvConfMsg). z.ask) conf;
    }))
    (in_append r.conf (act p c i f).confs (confirmed old p f (settled p c f (act p c i f).facts) (act p c i f).asked) r.made)

-- ---- at a node of a network
module _ (q : ℕ) (s : Step) (w : World) (bounds : AreBounds q w) (y : Item) (r : ResvMsg) (e : End) (f g : Facts) (at : IsResvAt q s w y r e f g) where
  abbrev p : NodeConfig
  p = config_of q w.net w.trees e.node

  abbrev on : ℕ
  on = iface_of w.net.ends y.end

  abbrev st : StyleKind
  st = ask_style r.ask

  proper : IsProperAsk r.ask
  proper = subst IsProperArrival at.resv (bounds.flight y (got_in w.flight at.place y at.item)).proper

  -- what was taken stands in the book behind the step
  stands : y.dst ≡ own p on → (u : UnitOf) (part : Part) → get (taking p w.clock on r f).taken u ≡ Some part
      → (entry : Part) × (get (book g on) (record { session = r.session; style = st; unit = u }) ≡ Some entry) × IsPartAtMost part entry
  stands mine u part h =
      let t = took p w.clock on r f u part h in
      let x = t.taken in
      let there = a_unit_that_passes q s w bounds y r e f g x.unit part x.before at mine (record { known = t.known; style = t.style; tried = x.tried }) in
      let b = in_book g st (r.session, ((on, r.hop.addr), x.unit.unit)) _ there (made_named (names_that_match x.unit.names (matched p f (asker_of p w.clock on r))) x.unit.flow part x.tried.some) in
      (b.0, ap (λ (z : UnitOf). get (book g on) (record { session = r.session; style = st; unit = z })) x.key ∙ b.1, b.2)

  begins : y.dst ≡ own p on → (m : ResvConfMsg) (taken : Ask) → ask_of st (taking p w.clock on r f).taken ≡ Some taken → m.ask ≡ without_scope taken
      → m.session ≡ r.session → r.confirm ≡ Some m.confirm → m.err.node ≡ own p on → Begins q s w m
  begins mine m taken what says session wish here =
      record {
        item = y;
        resv = r;
        end = e;
        before = f;
        after = g;
        at = at;
        session = session;
        style = style;
        wish = wish;
        asked = λ u i. asked u (in_taken u i);
        here = here;
        held = λ u i. held u (unit_of u i);
      }
    where
      style : ask_style m.ask ≡ st
      style = ap ask_style says ∙ same_style taken ∙ style_told st (taking p w.clock on r f).taken taken what

      in_taken : (u : AskedUnit) → In u (asked_units m.ask) → In u (asked_units (without_scope taken))
      in_taken u i = subst (λ (z : Ask). In u (asked_units z)) says i

      unit_of : (u : AskedUnit) → In u (asked_units m.ask) → IsUnitOf taken u
      unit_of u i = with_scope taken u (in_taken u i)

      -- with the names and the flow of its part
      part_of_unit : (u : AskedUnit) (x : IsUnitOf taken u) → IsAskedOf (taking p w.clock on r f).taken x.unit
      part_of_unit u x = (asks_of_parts.units st (taking p w.clock on r f).taken taken x.unit (of_style p w.clock on r f proper) what).0 x.asks

      asked : (u : AskedUnit) → In u (asked_units (without_scope taken)) → IsAskedUnit r u
      asked u i =
          let x = with_scope taken u i in
          let a = part_of_unit u x in
          let t = took p w.clock on r f x.unit.unit a.part a.there in
          let asks = asked_for p w.clock on r f x.unit.unit a.part t in
          let all : Names = matched p f (asker_of p w.clock on r) in
          let made = made_of (names_that_match t.taken.unit.names all) t.taken.unit.flow a.part t.taken.tried.some in
          record {
            unit = t.taken.unit;
            asks = asks;
            same = x.same ∙ t.taken.key;
            names = λ listed n.
                listed_of r.ask t.taken.unit asks (λ wild. not_wild taken u i listed n (style_told st (taking p w.clock on r f).taken taken what ∙ wild)) all listed
                (of_some listed a.part.senders (sym (x.names listed n) ∙ a.names) ∙ made.senders);
            flow = x.flow ∙ a.flow ∙ made.flow;
          }

      held : (u : AskedUnit) → IsUnitOf taken u → IsUnitHeld (book g on) m.session (ask_style m.ask) u
      held u x =
          let a = part_of_unit u x in
          let b = stands mine x.unit.unit a.part a.there in
          record {
            part = b.0;
            there = (λ j. get (book g on) (record { session = session j; style = style j; unit = x.same j })) ∙ b.1;
            names = λ listed n.
                let same : listed ≡ a.part.senders = of_some listed a.part.senders (sym (x.names listed n) ∙ a.names) in
                subst (λ (z : Names). IsWithin z b.0.senders) (sym same) b.2.names;
            flow = subst (λ (z : TokenBucket). IsAtMost z b.0.flow) (sym (x.flow ∙ a.flow)) b.2.flow;
          }

-- what a node of the network sends by a step
module _ (q : ℕ) (s : Step) (w : World) (bounds : AreBounds q w) (m : ResvConfMsg) (n : ℕ) (f : Facts) (there : slice_get w.nodes n ≡ Some f) where
  abbrev now : NodeConfig
  now = config_of q (net_after s w) w.trees n

  passed : (x : Input) → input_at s w n ≡ Some x → HasCome x m → IsPassedOn s w m
  passed x e h =
      let d = came_by s w n h.iface h.dst (Spelt (message.ResvConf m)) (e ∙ ap Some h.came) in
      let same : Came h.iface h.dst (Spelt (message.ResvConf m)) ≡ Came (iface_of w.net.ends d.1.end) d.1.dst d.1.arrival = d.7 in
      let arrival : Spelt (message.ResvConf m) ≡ d.1.arrival = cc in
      record { place = d.0; item = d.1; step_is = d.3; arrives = d.4; says = sym arrival }

  begun : (x : Input) → input_at s w n ≡ Some x → IsBegun now (w.clock + ms_of s) x f m → Begins q s w m
  begun x e b =
      let d = came_by s w n b.iface (own now b.iface) (Spelt (message.Resv b.resv)) (e ∙ ap Some b.came) in
      let same : Came b.iface (own now b.iface) (Spelt (message.Resv b.resv)) ≡ Came (iface_of w.net.ends d.1.end) d.1.dst d.1.arrival = d.7 in
      let iface : b.iface ≡ iface_of w.net.ends d.1.end = cc in
      let dst : own now b.iface ≡ d.1.dst = cc in
      let arrival : Spelt (message.Resv b.resv) ≡ d.1.arrival = cc in
      let place : now ≡ config_of q w.net w.trees d.2.node =
      ap (λ (z : Step). config_of q (net_after z w) w.trees n) d.3 ∙ ap (λ (k : ℕ). config_of q w.net w.trees k) (sym d.6) in
      let still : w.clock + 0 ≡ w.clock = omega arith in
      let clock : w.clock + ms_of s ≡ w.clock = ap (λ (z : Step). w.clock + ms_of z) d.3 ∙ still in
      let here : own now b.iface ≡ own (config_of q w.net w.trees d.2.node) (iface_of w.net.ends d.1.end) = (λ j. own (place j) (iface j)) in
      let asks : ask_of (ask_style b.resv.ask) (taking now (w.clock + ms_of s) b.iface b.resv f).taken
      ≡ ask_of (ask_style b.resv.ask) (taking (config_of q w.net w.trees d.2.node) w.clock (iface_of w.net.ends d.1.end) b.resv f).taken =
      (λ j. ask_of (ask_style b.resv.ask) (taking (place j) (clock j) (iface j) b.resv f).taken) in
      begins q s w bounds d.1 b.resv d.2 f (outcome q s w n f).facts
      (record {
        place = d.0;
        step_is = d.3;
        item = d.4;
        end = d.5;
        resv = sym arrival;
        before = ap (λ (k : ℕ). slice_get w.nodes k) d.6 ∙ there;
        after = ap (λ (k : ℕ). slice_get (step q s w).nodes k) d.6 ∙ facts_after_made q s w n f there;
      })
      (sym dst ∙ here) m b.taken (sym asks ∙ b.what) b.says b.session b.wish (b.here ∙ here)

  sends : (send : Send) → send.message ≡ message.ResvConf m → (o : Option Input) → input_at s w n ≡ o → In send (outcome_of q o s w n f).sent → Begins q s w m ⊎ IsPassedOn s w m
  sends send is None e j = absurd j
  sends send is (Some x) e j =
      ⊎_elim (λ (b : IsBegun now (w.clock + ms_of s) x f m). inl (begun x e b)) (λ (h : HasCome x m). inr (passed x e h))
      (conf_source (config_of q w.net w.trees n) now (w.clock + ms_of s) x f send m j is)

pub a_confirmation_is_held : (q : ℕ) (s : Step) (w : World) → AreBounds q w → AConfirmationIsHeld q s w
a_confirmation_is_held q s w bounds y mark m i spelt =
    let c = (what_is_sent_is_copied q s w (y, mark)).0 i in
    let copied : Spelt c.send.message ≡ Spelt (message.ResvConf m) = sym (ap (λ (z : Item × Bool). z.0.arrival) c.is) ∙ spelt in
    let is : c.send.message ≡ message.ResvConf m = cc in
    sends q s w bounds m c.node c.facts c.there c.send is (input_at s w c.node) refl c.sent

-- ---- over a run: what is in flight began, or was injected
injects : (s : Step) (w : World) (x : Item) (m : ResvConfMsg) → In x (rest s w) → x.arrival ≡ Spelt (message.ResvConf m) → In x w.flight ⊎ IsInjected m s
injects (Inject e dst a) w x m i says =
    ⊎_elim (λ (j : In x w.flight). inl j)
    (λ (j : In x ((record { end = e; dst = dst; arrival = a; born = w.made }) ∷ [])).
    ⊎_elim
    (λ (is : x ≡ record { end = e; dst = dst; arrival = a; born = w.made }).
    inr (record { end = e; dst = dst; is = ap (Inject e dst) (sym (ap (λ (z : Item). z.arrival) is) ∙ says) }))
    (λ (no : ⊥). absurd no) j)
    (in_append x w.flight ((record { end = e; dst = dst; arrival = a; born = w.made }) ∷ []) i)
injects (Piece ms) w x m i says = inl i
injects (Deliver k) w x m i says = inl (in_remove x k w.flight i)
injects (Lose k) w x m i says = inl (in_remove x k w.flight i)
injects (Copy k) w x m i says = inl (in_rest (Copy k) w x refl i)
injects (At n l) w x m i says = inl i
injects (ClearAt n) w x m i says = inl i
injects (Trace b) w x m i says = inl i
injects (Report e) w x m i says = inl i
injects Flags w x m i says = inl i
injects Adverts w x m i says = inl i
injects (Reroute g s hops) w x m i says = inl i

module _ (q : ℕ) (m : ResvConfMsg) where
  abbrev Began : Step → World → Type 0
  Began s w = Begins q s w m ⊎ IsInjected m s

  -- one that says this is in flight
  abbrev IsFlying : World → Type 0
  IsFlying w = (x : Item) × In x w.flight × (x.arrival ≡ Spelt (message.ResvConf m))

  -- before the step it was in flight, or the step began it
  before_step : (s : Step) (w : World) → AreBounds q w → IsFlying (step q s w) → Began s w ⊎ IsFlying w
  before_step s w bounds x =
      ⊎_elim
      (λ (j : In x.0 (rest s w)). ⊎_elim (λ (k : In x.0 w.flight). inr (x.0, k, x.2)) (λ (k : IsInjected m s). inl (inr k)) (injects s w x.0 m j x.2))
      (λ (j : In x.0 (each (λ (z : Item × Bool). z.0) (sent q s w))).
      let t = in_each (λ (z : Item × Bool). z.0) x.0 (sent q s w) j in
      ⊎_elim (λ (b : Begins q s w m). inl (inl b)) (λ (b : IsPassedOn s w m). inr (b.item, got_in w.flight b.place b.item b.arrives, b.says))
      (a_confirmation_is_held q s w bounds t.0.0 t.0.1 m t.1 (ap (λ (z : Item). z.arrival) (sym t.2) ∙ x.2)))
      (in_append x.0 (rest s w) (each (λ (z : Item × Bool). z.0) (sent q s w)) x.1)

  began_in : (ss : List Step) (w : World) → Visited (machine q) (AreBounds q) ss w → IsFlying (run (machine q) ss w) → Happens (machine q) Began ss w ⊎ IsFlying w
  began_in [] w v x = inr x
  began_in (s ∷ ss) w v x =
      ⊎_elim (λ (h : Happens (machine q) Began ss (step q s w)). inl (inr h))
      (λ (y : IsFlying (step q s w)). ⊎_elim (λ (b : Began s w). inl (inl b)) (λ (z : IsFlying w). inr z) (before_step s w v.0 y))
      (began_in ss (step q s w) v.1 x)

front_visited : (q : ℕ) (P : World → Type 0) (ss ts : List Step) (w : World) → Visited (machine q) P (ss ++ ts) w → Visited (machine q) P ss w
front_visited q P [] ts w v = visited_start (machine q) P ts w v
front_visited q P (s ∷ ss) ts w v = (v.0, front_visited q P ss ts (step q s w) v.1)

pub each_confirmation_has_begun : EachConfirmationHasBegun
each_confirmation_has_begun p fit ss ts parts y m i says =
    let v = front_visited p.quarter (AreBounds p.quarter) ss ts (first_world p)
    (subst (λ (z : List Step). Visited (machine p.quarter) (AreBounds p.quarter) z (first_world p)) parts (each_world_of_a_run_is_within_bounds p fit)) in
    ⊎_elim (λ (h : Happens (machine p.quarter) (Began p.quarter m) ss (first_world p)). h) (λ (x : IsFlying p.quarter m (first_world p)). absurd x.1)
    (began_in p.quarter m ss (first_world p) v (y, i, says))
