-- Steps of the loops over sessions.
use Rattle.std.specs.Prelude.{◌≡◌, ℕ, nat_lt, ◌+◌, ◌<◌, ◌&&◌, Bool, true, false, not, List, [], ◌∷◌, ◌++◌, map as each, fold, length, take, get_or, slice_get, Some, None, zero, suc, refl}
use Rattle.std.specs.List.{flat_map}
use Rattle.std.proofs.Common.{sym, ap, subst, inl, inr, ⊎_elim, ◌∙◌, arith}
use Rattle.std.proofs.lemmas.List.{map-append, take_more}
use Rattle.path_state.specs.Paths.{HopSet, hops_by}
use Rattle.rsvp_base.specs.Members.{In}
use Rattle.rsvp_base.specs.Orders.{senders, sessions, units}
use Rattle.rsvp_base.specs.Sets.{Set}
use Rattle.rsvp_base.specs.Table.{changed, empty, get, has, keys, size}
use Rattle.blockade_state.specs.Touched.{Marks, is_touched}
use Rattle.rsvp_base.specs.Under.{under}
use Rattle.rsvp_base.specs.declared.session.Session.{Session}
use Rattle.rsvp_base.proofs.Changed.{unchanged}
use Rattle.laws_bounds.proofs.Requesting.{nowhere}
use Rattle.router_rules.specs.Facts.{Want, Wants, want_keys}
use Rattle.router_rules.specs.Inputs.{Send}
use Rattle.router_rules.specs.Known.{Lane, lanes}
use Rattle.router_rules.specs.NodeConfig.{is_session}
use Rattle.style_rules.specs.Merge.{PartTable}
use Rattle.router_rules.specs.Requests.{toward}
use Rattle.router_state.specs.State.{Said, State, facts_of, said_at}
use Rattle.laws_sends.specs.Before.{lanes_by}
use Rattle.laws_sends.specs.Marks.{unmarked_in, used_in}
use Rattle.laws_sends.specs.Saying.{IsCleared, IsRoomy, IsTold, SessionLane, lane_by}
use Rattle.laws_sends.specs.SendsHere.{hops_in}
use Rattle.laws_sends.specs.Several.{is_among}
use Rattle.router_aging.proofs.Offers.{told_more}
use Rattle.router_state.specs.Whole.{state_of}
use Rattle.router_state.specs.declared.tables.Tables.{Tables}
use Rattle.resv_sends.specs.Wishes.{used_seen}
use Rattle.resv_sends.specs.Rounds.{IsStill, renewed_by, told_by, torn_by}
use Rattle.resv_sends.proofs.Sent.{hops_are}
use Rattle.resv_sends.proofs.Still.{still_marked, still_told, still_torn}
use Rattle.router_rounds.specs.Rounds.{AreCleared, AreTold, SessionHops, told_round, torn_near, unmarked_among, wants_once, wants_told}
use Rattle.router_rounds.proofs.Telling.{later, once_any, once_more, told_any, told_same, toward_kept, told_more as lanes_told}
use Rattle.router_rounds.specs.Nears.{NearTable, near_row}
use Rattle.router_rounds.specs.declared.nears.Near.{Near}
use Rattle.router_rounds.proofs.Near.{not_before}

-- ---- one session
pub torn_is : (c : ℕ) (t : Tables) (said : Said) (s : Session) (hops : HopSet) → flat_map (torn_by c (state_of t said) said s) (lanes_by (keys hops)) ≡ torn_near c (state_of t said) said (s, hops)
unfolding torn_near
torn_is c t said s hops = refl

module _ (c : ℕ) (t : Tables) (said : Said) (s : Session) (hops : HopSet) (near : hops ≡ hops_by (under sessions senders t.paths.facts s).rows) where
  pub hops_so : hops ≡ hops_in (facts_of c (state_of t said)) s
  hops_so = near ∙ hops_are c (state_of t said) s

  pub round_is : (due : Bool) → flat_map (told_by c (state_of t said) None due said s) (lanes_by (keys hops)) ≡ told_round c (state_of t said) due said s
  unfolding told_round
  round_is due = ap (λ (hs : HopSet). flat_map (told_by c (state_of t said) None due said s) (lanes_by (keys hs))) hops_so

  pub once_is : (used : Set units) → used ≡ used_seen c (state_of t said) s said (lanes_by (keys hops)) → changed (unmarked_in s used) t.wants ≡ wants_once c (state_of t said) said s
  unfolding wants_once used_seen
  once_is used is =
      ap (λ (u : Set units). changed (unmarked_in s u) t.wants) is ∙ ap (λ (hs : HopSet). changed
      (unmarked_in s (used_in t.config (facts_of c (state_of t said)) s said (lanes_by (keys hs)))) t.wants) hops_so

-- ---- a session to whose lanes was said what goes there
module _ (t : Tables) (said : Said) (s : Session) (still : IsStill (state_of t said) s said) where
  pub still_near : (c : ℕ) (hops : HopSet) → [] ≡ torn_near c (state_of t said) said (s, hops)
  still_near c hops = sym (still_torn (state_of t said) s said still c (lanes_by (keys hops))) ∙ torn_is c t said s hops

  pub still_round : (c : ℕ) (hops : HopSet) → hops ≡ hops_by (under sessions senders t.paths.facts s).rows
      → flat_map (renewed_by c (state_of t said) said s) (lanes_by (keys hops)) ≡ told_round c (state_of t said) true said s
  still_round c hops near = still_told (state_of t said) s said still c (lanes_by (keys hops)) ∙ round_is c t said s hops near true

  pub still_is_told : (es : List SessionLane) → IsTold (state_of t said) s es said
  still_is_told es = record { here = λ c e i. still c e; rest = λ l out. refl }

  -- nothing is to be cleared there, also once lanes of others were cleared
  pub still_is_cleared : (es : List SessionLane) → ((l : Lane) (p : PartTable) → get said l ≡ Some p → nat_lt 0 (size p) ≡ true) → IsCleared (state_of t said) s es said
  still_is_cleared es full = record {
    at = λ c l. inl refl;
    gone = λ c e i off. still c e ∙ nowhere t.config (facts_of c (state_of t said)) (lane_by s e) off;
    some = full;
  }

  pub still_later : (es : List SessionHops) (new : Said) → AreCleared (state_of t said) es new → IsStill (state_of t new) s new
  still_later es new cleared d e =
      ⊎_elim
      (λ (a : said_at new (lane_by s e) ≡ said_at said (lane_by s e)). a ∙ still d e)
      (λ (b : (said_at new (lane_by s e) ≡ empty) × (has (lanes (facts_of d (state_of t said))) (lane_by s e) ≡ false)). b.0 ∙ sym (nowhere t.config (facts_of d (state_of t said)) (lane_by s e) b.1))
      (cleared.at d (lane_by s e))

  pub still_once : (c : ℕ) → t ≡ record t { wants = wants_once c (state_of t said) said s }
  unfolding wants_once
  still_once c =
      ap (λ (w : Wants). record t { wants = w })
      (sym (unchanged {X = Want} want_keys (unmarked_in s empty) t.wants (λ k w there. ap (λ b. Some (record w { confirm = b })) (by w.confirm (is_session s k.0))))
      ∙ ap (λ (u : Set units). changed (unmarked_in s u) t.wants) (sym (still_marked (state_of t said) s said still c (lanes_by (keys (hops_in (facts_of c (state_of t said)) s))))))
    where
      by : (b a : Bool) → (b && not (a && false)) ≡ b
      by true true = refl
      by true false = refl
      by false a = refl

-- that a session is only due, as the code tests it
module _ (due : List Session) (touched : Marks) (s : Session) where
  only_due : (b a r : Bool) → r ≡ (b && not a) → r ≡ true → (b ≡ true) × (a ≡ false)
  only_due true true r e on = let z : true ≡ false = sym on ∙ e in absurd (cc)
  only_due true false r e on = (refl, refl)
  only_due false a r e on = let z : true ≡ false = sym on ∙ e in absurd (cc)

  pub still_due : (b r : Bool) → b ≡ is_among due s → r ≡ (b && not (is_touched touched s)) → r ≡ true → (b ≡ true) × (is_among due s ≡ true) × (is_touched touched s ≡ false)
  still_due b r is e on = let both = only_due b (is_touched touched s) r e on in (both.0, sym is ∙ both.0, both.1)

-- ---- lists that grow by a row
abbrev pub session_of : Near → Session
session_of e = e.session

module _ (list : List Near) (i : ℕ) (r : Near) (is : r ≡ get_or list i r) (h : i < length list) where
  pub rows_more : each near_row (take (i + 1) list) ≡ each near_row (take i list) ++ near_row r ∷ []
  rows_more = ap (each near_row) (take_more list i r h) ∙ map-append near_row (take i list) (get_or list i r ∷ []) ∙ ap (λ (z : Near). each near_row (take i list) ++ near_row z ∷ []) (sym is)

  pub sessions_more : each session_of (take (i + 1) list) ≡ each session_of (take i list) ++ r.session ∷ []
  sessions_more = ap (each session_of) (take_more list i r h) ∙ map-append session_of (take i list) (get_or list i r ∷ []) ∙ ap (λ (z : Near). each session_of (take i list) ++ z.session ∷ []) (sym is)

  -- what is told of a row more
  pub row_told : {B : Type 0} (posted : B → Send → B) (say : Near → List Send) (start out : B) → out ≡ fold posted start (flat_map say (take i list))
      → fold posted out (say r) ≡ fold posted start (flat_map say (take (i + 1) list))
  row_told posted say start out so_far = ap (λ (z : Near). fold posted out (say z)) is ∙ told_more posted say start out list i r h so_far

-- the session of a row does not stand among those before it
module _ (table : NearTable) (list : List Near) (same : each near_row list ≡ table.rows) where
  pub all_sessions : each session_of list ≡ keys table
  all_sessions = by list ∙ ap (each (λ (e : Session × HopSet). e.0)) same
    where
      by : (es : List Near) → each session_of es ≡ each (λ (e : Session × HopSet). e.0) (each near_row es)
      by [] = refl
      by (e ∷ es) = ap (λ ss. e.session ∷ ss) (by es)

  pub not_yet : (i : ℕ) (r : Near) → r ≡ get_or list i r → i < length list → is_among (each session_of (take i list)) r.session ≡ false
  not_yet i r is h =
      ap (λ ss. is_among ss r.session) (front i list ∙ ap (take i) all_sessions)
      ∙ not_before table i r.session (ap (λ ss. slice_get ss i) (sym all_sessions) ∙ at i list h ∙ ap (λ (z : Near). Some z.session) (sym is))
    where
      front : (k : ℕ) (es : List Near) → each session_of (take k es) ≡ take k (each session_of es)
      front zero es = refl
      front (suc k) [] = refl
      front (suc k) (e ∷ es) = ap (λ ss. e.session ∷ ss) (front k es)

      at : (k : ℕ) (es : List Near) → k < length es → slice_get (each session_of es) k ≡ Some (get_or es k r).session
      at k [] lt = absurd (omega (arith, lt))
      at zero (e ∷ es) lt = refl
      at (suc k) (e ∷ es) lt = at k es (omega (arith, lt))

-- a row is one of those that were noted
noted_in : (table : NearTable) (list : List Near) → each near_row list ≡ table.rows → (i : ℕ) (r : Near) → r ≡ get_or list i r → i < length list → In (near_row r) table.rows
noted_in table list same i r is h = subst (λ es. In (near_row r) es) same (at i list is h)
  where
    at : (k : ℕ) (es : List Near) → r ≡ get_or es k r → k < length es → In (near_row r) (each near_row es)
    at k [] e lt = absurd (omega (arith, lt))
    at zero (x ∷ es) e lt = inl (ap near_row e)
    at (suc k) (x ∷ es) e lt = inr (at k es e (omega (arith, lt)))

-- ---- a session more is told: t are the tables before all, first what was said then
module _ (t : Tables) (first : Said) (list : List Near) (i : ℕ) (r : Near) (is : r ≡ get_or list i r) (h : i < length list) (table : NearTable) (same : each near_row list ≡ table.rows) where
  abbrev m : State
  m = state_of t first

  abbrev xs : List Session
  xs = each session_of (take i list)

  -- those so far
  module _ (now : Tables) (said : Said) (marks : (c : ℕ) → now ≡ record t { wants = wants_told c m first xs }) (told : AreTold m xs said) where
    pub step_told : (new : Said) → ((c : ℕ) → IsTold (state_of now said) r.session (lanes_by (keys (hops_in (facts_of c (state_of now said)) r.session))) new)
        → AreTold m (each session_of (take (i + 1) list)) new
    step_told new next =
        subst (λ ss. AreTold m ss new) (sym (sessions_more list i r is h))
        (lanes_told m first xs said told r.session 0 (hops_in (facts_of 0 m) r.session) (λ c. sym (hops_are 0 m r.session) ∙ hops_are c m r.session) new
        (subst (λ (z : Tables). IsTold (state_of z said) r.session (lanes_by (keys (hops_in (facts_of 0 (state_of z said)) r.session))) new) (marks 0) (next 0)))

    -- what was said to the lanes of the next one is still what goes there
    pub step_still : IsStill m r.session first → IsStill (state_of now said) r.session said
    step_still still d e =
        told.rest (lane_by r.session e) (not_yet table list same i r is h) ∙ still d e ∙ sym (toward_kept m first 0 xs d (lane_by r.session e))
        ∙ ap (λ (z : Tables). toward z.config (facts_of d (state_of z said)) (lane_by r.session e)) (sym (marks 0))

    -- and the previous hops that it has are those that were noted
    pub step_near : (In (near_row r) table.rows → r.hops ≡ hops_by (under sessions senders t.paths.facts r.session).rows) → r.hops ≡ hops_by (under sessions senders now.paths.facts r.session).rows
    step_near had = had (noted_in table list same i r is h) ∙ ap (λ (z : Tables). hops_by (under sessions senders z.paths.facts r.session).rows) (sym (marks 0))

    pub step_sent : {B : Type 0} (posted : B → Send → B) (start out new : B) (c : ℕ) (due : Session → Bool)
        → out ≡ fold posted start (flat_map (λ (e : Near). told_round c m (due e.session) first e.session) (take i list))
        → new ≡ fold posted out (told_round c (state_of now said) (due r.session) said r.session)
        → new ≡ fold posted start (flat_map (λ (e : Near). told_round c m (due e.session) first e.session) (take (i + 1) list))
    step_sent posted start out new c due so_far sent =
        sent ∙ ap (λ (z : Tables). fold posted out (told_round c (state_of z said) (due r.session) said r.session)) (marks c)
        ∙ ap (fold posted out) (told_any (later m first c xs) said c (due r.session) said r.session ∙ told_same m first xs said told r.session c (not_yet table list same i r is h) c (due r.session))
        ∙ row_told list i r is h posted (λ (e : Near). told_round c m (due e.session) first e.session) start out so_far

    pub step_marks : (new : Tables) → ((c : ℕ) → new ≡ record now { wants = wants_once c (state_of now said) said r.session }) → (c : ℕ)
        → new ≡ record t { wants = wants_told c m first (each session_of (take (i + 1) list)) }
    step_marks new once c =
        once c ∙ ap (λ (z : Tables). record z { wants = wants_once c (state_of z said) said r.session }) (marks c)
        ∙ ap (λ (w : Wants). record t { wants = w })
        (once_any (later m first c xs) said c said r.session ∙ once_more m first xs said told r.session c (not_yet table list same i r is h)
        ∙ ap (wants_told c m first) (sym (sessions_more list i r is h)))

    pub step_roomy : (new : Said) → IsRoomy (state_of now said) new → IsRoomy m new
    step_roomy new room = let z = subst (λ (z : Tables). IsRoomy (state_of z said) new) (marks 0) room in record { some = z.some; within = z.within }

    pub before_roomy : IsRoomy m said → IsRoomy (state_of now said) said
    before_roomy room = subst (λ (z : Tables). IsRoomy (state_of z said) said) (sym (marks 0)) (record { some = room.some; within = room.within })

-- before all no mark is taken away
pub no_wants : (t : Tables) (first : Said) (c : ℕ) → t ≡ record t { wants = wants_told c (state_of t first) first [] }
unfolding wants_told
no_wants t first c = ap (λ (w : Wants). record t { wants = w }) (sym (unchanged {X = Want} want_keys (unmarked_among t.config (facts_of c (state_of t first)) first []) t.wants
    (λ k w there. ap (λ b. Some (record w { confirm = b })) (by w.confirm))))
  where
    by : (b : Bool) → (b && true) ≡ b
    by true = refl
    by false = refl
