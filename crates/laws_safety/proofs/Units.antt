-- What the units of a Resv leave: under its own key nothing changes where a unit is not taken, and it stands where it is; nor does
-- anything under another key.
use Rattle.std.proofs.Common.{◌≡◌, ℕ, List, [], ◌∷◌, Bool, true, false, Option, None, Some, ◌⊎◌, inl, inr, ⊎_elim, refl, sym, ap, subst, ◌∙◌}
use Rattle.std.specs.Prelude.{◌++◌, map as each}
use Rattle.std.specs.Ordering.{eq_by_cmp}
use Rattle.rsvp_base.specs.declared.part.Part.{Part}
use Rattle.rsvp_base.specs.declared.session.Sender.{Sender}
use Rattle.rsvp_base.specs.declared.style.StyleKind.{StyleKind}
use Rattle.rsvp_base.specs.declared.style.Unit.{Unit as UnitOf}
use Rattle.rsvp_base.specs.declared.style.Unit.TheVariants.{Of}
use Rattle.rsvp_base.specs.Members.{In}
use Rattle.rsvp_base.specs.Orders.{Names, senders}
use Rattle.rsvp_base.specs.Sets.{is_none}
use Rattle.rsvp_base.specs.Table.{get}
use Rattle.rsvp_base.specs.TokenBucket.{TokenBucket}
use Rattle.rsvp_base.proofs.Members.{in_each}
use Rattle.rsvp_base.proofs.Tables.{either, tied_same, tied_self}
use Rattle.rsvp_messages.specs.declared.ask.Ask.{Ask}
use Rattle.rsvp_messages.specs.declared.ask.Ask.TheVariants as ask
use Rattle.rsvp_messages.specs.declared.message.ResvMsg.{ResvMsg}
use Rattle.rsvp_messages.specs.Units.{AskedUnit, ask_style, asked_units, fixed_unit}
use Rattle.style_rules.specs.Lines.{LineKey, line_keys}
use Rattle.tree_model.specs.Chains.{NoRepeats}
use Rattle.laws_network.proofs.Hosts.{once_keys}
use Rattle.laws_bounds.specs.AskLaws.{IsUnitAt, IsOfUnit}
use Rattle.laws_bounds.proofs.Taking.{units_one_by_one}
use Rattle.laws_bounds.proofs.Wholes.{resvs_in_steps, units_in_full}
use Rattle.router_rules.specs.Asking.{Asker, Taking, key_at, matched, nothing_taken, resv_state, style_conflict, take_unit, take_units, taking, taking_of}
use Rattle.router_rules.specs.Facts.{Facts, ResvState, Resvs, resvs_of}
use Rattle.router_rules.specs.Known.{known}
use Rattle.router_rules.specs.NodeConfig.{NodeConfig}
use Rattle.laws_safety.specs.Refusals.{HasNoPlace, IsNotTaken, IsRefusedAlone, IsRefusedWhole, IsUntaken, Passes, asker}

-- ---- each unit stands once in a Resv
of_once : (xs : List Sender) → NoRepeats xs → NoRepeats (each Of xs)
of_once [] h = tt
of_once (x ∷ xs) h =
    (λ i. let r = in_each Of (Of x) xs i in let is : Of x ≡ Of r.0 = r.2 in let same : r.0 ≡ x = cc in h.0 (subst (λ (z : Sender). In z xs) same r.1), of_once xs h.1)

fixed_units : (rows : List (Sender × TokenBucket)) → each (λ (u : AskedUnit). u.unit) (each fixed_unit rows) ≡ each Of (each (λ (e : Sender × TokenBucket). e.0) rows)
fixed_units [] = refl
fixed_units (e ∷ es) = λ i. Of e.0 ∷ fixed_units es i

units_once : (a : Ask) → NoRepeats (each (λ (u : AskedUnit). u.unit) (asked_units a))
units_once (ask.Wild scope flow) = ((λ i. i), tt)
units_once (ask.Shared part) = ((λ i. i), tt)
units_once (ask.Fixed list) = subst NoRepeats (sym (fixed_units list.rows)) (of_once (each (λ (e : Sender × TokenBucket). e.0) list.rows) (once_keys senders list.rows list.sorted))

apart : (front : List AskedUnit) (u : AskedUnit) (back : List AskedUnit) → NoRepeats (each (λ (x : AskedUnit). x.unit) (front ++ u ∷ back)) → (v : AskedUnit) → In v front ⊎ In v back
    → v.unit ≡ u.unit → ⊥
apart [] u back h v i same = ⊎_elim (λ (no : ⊥). no) (λ (j : In v back). h.0 (subst (λ (z : UnitOf). In z (each (λ (x : AskedUnit). x.unit) back)) same (there v back j))) i
  where
    there : (v : AskedUnit) (xs : List AskedUnit) → In v xs → In v.unit (each (λ (x : AskedUnit). x.unit) xs)
    there v [] i = absurd i
    there v (y ∷ ys) i = ⊎_elim (λ (e : v ≡ y). inl (ap (λ (x : AskedUnit). x.unit) e)) (λ (j : In v ys). inr (there v ys j)) i
apart (y ∷ front) u back h v i same =
    ⊎_elim
    (λ (j : In v (y ∷ front)).
    ⊎_elim (λ (e : v ≡ y). h.0 (subst (λ (z : UnitOf). In z (each (λ (x : AskedUnit). x.unit) (front ++ u ∷ back))) (sym same ∙ ap (λ (x : AskedUnit). x.unit) e) (mine front)))
    (λ (k : In v front). apart front u back h.1 v (inl k) same) j)
    (λ (j : In v back). apart front u back h.1 v (inr j) same) i
  where
    mine : (xs : List AskedUnit) → In u.unit (each (λ (x : AskedUnit). x.unit) (xs ++ u ∷ back))
    mine [] = inl refl
    mine (x ∷ xs) = inr (mine xs)

-- ---- a unit of the list has the key, or none has
pub find_unit : (key_in : UnitOf → LineKey) (us : List AskedUnit) (k : LineKey) → ((b : AskedUnit) × In b us × (k ≡ key_in b.unit)) ⊎ ((b : AskedUnit) → In b us → k ≡ key_in b.unit → ⊥)
find_unit key_in [] k = inr (λ b i e. i)
find_unit key_in (b ∷ bs) k =
    either (eq_by_cmp line_keys.cmp k (key_in b.unit)) (λ tied. inl (b, inl refl, tied_same line_keys k (key_in b.unit) tied))
    (λ apart.
    ⊎_elim (λ (some : (c : AskedUnit) × In c bs × (k ≡ key_in c.unit)). inl (some.0, inr some.1, some.2))
    (λ (none : (c : AskedUnit) → In c bs → k ≡ key_in c.unit → ⊥). inr (λ c i e.
    ⊎_elim
    (λ (is : c ≡ b).
    let bad : true ≡ false = sym (ap (λ (z : LineKey). eq_by_cmp line_keys.cmp k z) (sym (e ∙ ap (λ (z : AskedUnit). key_in z.unit) is)) ∙ tied_self line_keys k) ∙ apart in
    cc)
    (λ (j : In c bs). none c j e) i)) (find_unit key_in bs k))

module _ (p : NodeConfig) (c e : ℕ) (m : ResvMsg) (f : Facts) where
  abbrev o : Asker
  o = asker p c e m f

  abbrev all : Names
  all = matched p f o

  abbrev us : List AskedUnit
  us = asked_units m.ask

  abbrev first : Taking
  first = nothing_taken (resvs_of (ask_style m.ask) f) []

  module _ (u : AskedUnit) (before : Taking) (at : IsUnitAt p o f all first us u before) where
    abbrev key : LineKey
    key = key_at o u.unit

    other : (v : AskedUnit) → In v at.front ⊎ In v at.back → key ≡ key_at o v.unit → ⊥
    other v i same = apart at.front u at.back (subst (λ (z : List AskedUnit). NoRepeats (each (λ (x : AskedUnit). x.unit) z)) at.split (units_once m.ask)) v i (sym (ap (λ (k : LineKey). k.1.1) same))

    -- under its key the units behind it change nothing
    behind : get (take_units p o f all first us).table key ≡ get (take_unit p o f all before u).table key
    behind =
        ap (λ (z : List AskedUnit). get (take_units p o f all first z).table key) at.split
        ∙ ap (λ (t : Taking). get t.table key) (units_in_full.after p o f all first at.front (u ∷ at.back))
        ∙ units_one_by_one.others p o f all at.back (take_unit p o f all (take_units p o f all first at.front) u) key (λ v i. other v (inr i))
        ∙ ap (λ (t : Taking). get (take_unit p o f all t u).table key) (sym at.is)

    -- nor do those before it
    ahead : get before.table key ≡ get (resvs_of (ask_style m.ask) f) key
    ahead = ap (λ (t : Taking). get t.table key) at.is ∙ units_one_by_one.others p o f all at.front first key (λ v i. other v (inl i))

    not_taken : IsNotTaken p o f all before u → get (take_unit p o f all before u).table key ≡ get before.table key
    not_taken refused =
        ⊎_elim
        (λ nobody. ap (λ (t : Resvs). get t key) (units_one_by_one.nobody p o f all before u nobody))
        (λ (h : (part : Part) × HasNoPlace p o f all before u part).
        ⊎_elim
        (λ out. ap (λ (t : Resvs). get t key) (units_one_by_one.left_out p o f all before u h.0 h.1.part_is out).0)
        (λ by. ap (λ (t : Resvs). get t key) (units_one_by_one.refused p o f all before u h.0 by.1.0 h.1.part_is by.0 by.1.1)) h.1.refused)
        refused

  -- ---- the Resv as a whole
  whole : (b : Bool) (other : Option StyleKind) → (b ≡ true) ⊎ ((x : StyleKind) × (other ≡ Some x)) → (taking_of p o us f b other).table ≡ resvs_of (ask_style m.ask) f
  whole true other h = refl
  whole false (Some x) h = refl
  whole false None h = ⊎_elim (λ (no : false ≡ true). absurd (cc)) (λ (no : (x : StyleKind) × (None ≡ Some x)). let z = no.1 in absurd (cc)) h

  pub refused_whole : IsRefusedWhole p c e m f → (taking p c e m f).table ≡ resvs_of (ask_style m.ask) f
  refused_whole h = whole (is_none (known f m.session)) (style_conflict f m.session (ask_style m.ask)) h

  pub refused_alone : (u : AskedUnit) → IsRefusedAlone p c e m f u → get (taking p c e m f).table (key_at o u.unit) ≡ get (resvs_of (ask_style m.ask) f) (key_at o u.unit)
  refused_alone u h = by (is_none (known f m.session)) (style_conflict f m.session (ask_style m.ask))
    where
      by : (b : Bool) (other : Option StyleKind) → get (taking_of p o us f b other).table (key_at o u.unit) ≡ get (resvs_of (ask_style m.ask) f) (key_at o u.unit)
      by true other = refl
      by false (Some x) = refl
      by false None = behind u h.before h.at ∙ not_taken u h.before h.at h.not_taken ∙ ahead u h.before h.at

  pub untaken_unit : (u : AskedUnit) → IsUntaken p c e m f u → get (taking p c e m f).table (key_at o u.unit) ≡ get (resvs_of (ask_style m.ask) f) (key_at o u.unit)
  untaken_unit u h =
      ⊎_elim (λ (w : IsRefusedWhole p c e m f). ap (λ (t : Resvs). get t (key_at o u.unit)) (refused_whole w)) (λ (a : IsRefusedAlone p c e m f u). refused_alone u a) h.1

  -- under the key of none of them nothing changes
  of_none : (k : LineKey) → ((u : AskedUnit) → In u us → k ≡ key_at o u.unit → ⊥) → get (taking p c e m f).table k ≡ get (resvs_of (ask_style m.ask) f) k
  of_none k h = by (is_none (known f m.session)) (style_conflict f m.session (ask_style m.ask))
    where
      by : (b : Bool) (other : Option StyleKind) → get (taking_of p o us f b other).table k ≡ get (resvs_of (ask_style m.ask) f) k
      by true other = refl
      by false (Some x) = refl
      by false None = units_one_by_one.others p o f all us first k h

  -- so under none but the keys of those that are taken
  pub taken_alone : (k : LineKey) → ((u : AskedUnit) → In u us → k ≡ key_at o u.unit → IsUntaken p c e m f u)
      → get (taking p c e m f).table k ≡ get (resvs_of (ask_style m.ask) f) k
  taken_alone k h =
      ⊎_elim
      (λ (x : (u : AskedUnit) × In u us × (k ≡ key_at o u.unit)).
      ap (λ (z : LineKey). get (taking p c e m f).table z) x.2 ∙ untaken_unit x.0 (h x.0 x.1 x.2) ∙ ap (λ (z : LineKey). get (resvs_of (ask_style m.ask) f) z) (sym x.2))
      (λ (none : (u : AskedUnit) → In u us → k ≡ key_at o u.unit → ⊥). of_none k none)
      (find_unit (key_at o) us k)

  pub booked : (u : AskedUnit) (part : Part) (before : Taking) → Passes p c e m f u part before
      → get (taking p c e m f).table (key_at o u.unit) ≡ Some (resv_state o part (get before.table (key_at o u.unit)))
  booked u part before h =
      ap (λ (t : Taking). get t.table (key_at o u.unit)) (resvs_in_steps.by_units p c e m f h.known h.style)
      ∙ behind u before h.tried.at
      ∙ ap (λ (t : Resvs). get t (key_at o u.unit)) (units_one_by_one.taken p o f all before u part h.tried.some h.tried.room h.tried.says)
      ∙ units_one_by_one.at o u.unit part before.table

  -- what stands after them stood before, or a unit of the Resv made it
  pub source : (k : LineKey) (r : ResvState) → get (taking p c e m f).table k ≡ Some r → (get (resvs_of (ask_style m.ask) f) k ≡ Some r) ⊎ IsOfUnit o all us k r
  source k r h = by (is_none (known f m.session)) (style_conflict f m.session (ask_style m.ask)) h
    where
      by : (b : Bool) (other : Option StyleKind) → get (taking_of p o us f b other).table k ≡ Some r → (get (resvs_of (ask_style m.ask) f) k ≡ Some r) ⊎ IsOfUnit o all us k r
      by true other g = inl g
      by false (Some x) g = inl g
      by false None g = units_one_by_one.source p o f all us first k r g
