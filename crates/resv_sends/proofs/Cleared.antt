-- Lanes that are cleared, one after another.
use Rattle.std.specs.Prelude.{◌≡◌, ◌==◌, ℕ, Bool, true, false, cond, is_some, length, suc, take, slice_index_or, ◌<◌, ◌+◌, List, [], ◌∷◌, ◌++◌, Option, Some, None, refl}
use Rattle.std.specs.FinMap.Entries.{find}
use Rattle.std.specs.Option.{option_copied}
use Rattle.std.proofs.Common.{Bor, sym, ap, subst, inl, inr, ◌∙◌, arith, ⊎_elim}
use Rattle.std.proofs.lemmas.Bool.{eqb-true}
use Rattle.path_state.specs.Paths.{AreByKey, via as kept_via}
use Rattle.rsvp_base.specs.Members.{In}
use Rattle.rsvp_base.specs.Orders.{Names, senders}
use Rattle.rsvp_base.specs.Sets.{is_none}
use Rattle.rsvp_base.specs.Table.{empty, get, has}
use Rattle.rsvp_base.specs.declared.session.Sender.{Sender}
use Rattle.rsvp_base.specs.declared.session.Session.{Session}
use Rattle.rsvp_base.specs.declared.style.StyleKind.TheVariants.{Wild, Fixed, Shared}
use Rattle.rsvp_base.proofs.Members.{in_append}
use Rattle.rsvp_base.proofs.Tables.{either, tied_self, without_absent}
use Rattle.style_rules.specs.Lines.{NextHop}
use Rattle.style_rules.specs.Merge.{PartTable}
use Rattle.laws_bounds.proofs.Knowing.{lanes_made, lanes_told, via_made, via_told}
use Rattle.router_rules.specs.Known.{Lane, lane_keys, lanes, via}
use Rattle.laws_sends.specs.State.{Said, facts_of, said_at}
use Rattle.laws_sends.specs.Before.{lanes_by}
use Rattle.laws_sends.specs.Saying.{IsCleared, SessionLane, lane_by, told_at}
use Rattle.laws_sends.proofs.Saying.{cleared_gone, cleared_kept}
use Rattle.laws_sends.proofs.Via.{via_same}
use Rattle.router_state.specs.Whole.{state_of}
use Rattle.router_state.specs.declared.tables.Tables.{Tables}
use Rattle.rsvp_base.specs.declared.style.StyleKind.{StyleKind}
use Rattle.resv_sends.proofs.Listed.{lanes_more}
use Rattle.resv_sends.specs.Rounds.{cleared_of, lanes_of}

-- ---- sets with nobody, and with somebody
none_has : (names : Names) → is_none names ≡ true → (x : Sender) → has names x ≡ true → ⊥
none_has names none x h = by names.rows none h
  where
    by : (es : List (Sender × Unit {0})) → (length es == 0) ≡ true → is_some (find senders.cmp x es) ≡ true → ⊥
    by [] n f = let z : false ≡ true = f in cc
    by (y ∷ ys) n f = let z : suc (length ys) ≡ 0 = eqb-true (suc (length ys)) 0 n in absurd (omega (arith, z))

somebody : (names : Names) → is_none names ≡ false → (x : Sender) × (has names x ≡ true)
somebody names some = by names.rows refl
  where
    by : (es : List (Sender × Unit {0})) → names.rows ≡ es → (x : Sender) × (has names x ≡ true)
    by [] e = let z : true ≡ false = sym (ap (λ rs. length rs == 0) e) ∙ some in absurd (cc)
    by (y ∷ ys) e = (y.0, ap (λ rs. is_some (find senders.cmp y.0 rs)) e ∙ ap (λ b. is_some (cond b (Some y.1) (find senders.cmp y.0 ys))) (tied_self senders y.0))

-- ---- where no path comes from a hop
module _ (t : Tables) (said : Said) (s : Session) (e : SessionLane) (keyed : AreByKey t.paths.facts) where
  nobody_there : is_none (kept_via t.paths.facts s e.1.0 e.1.1) ≡ true → (c : ℕ) → has (lanes (facts_of c (state_of t said))) (lane_by s e) ≡ false
  nobody_there none c =
      let f = facts_of c (state_of t said) in
      either (has (lanes f) (lane_by s e))
      (λ there.
      let from = lanes_told f (lane_by s e) there in
      let x = via_made f s e.1 from.0 from.1 in
      absurd (none_has (via f s e.1) (ap is_none (sym (via_same c (state_of t said) s e.1 keyed)) ∙ none) from.0 x))
      (λ off. off)

  somebody_there : is_none (kept_via t.paths.facts s e.1.0 e.1.1) ≡ false → (c : ℕ) → has (lanes (facts_of c (state_of t said))) (lane_by s e) ≡ true
  somebody_there some c =
      let f = facts_of c (state_of t said) in
      let x = somebody (via f s e.1) (ap is_none (sym (via_same c (state_of t said) s e.1 keyed)) ∙ some) in
      lanes_made f (lane_by s e) x.0 (via_told f s e.1 x.0 x.1)

pub cleared_more : (t : Tables) (first : Said) (s : Session) (es : List SessionLane) (said : Said) → IsCleared (state_of t first) s es said → (e : SessionLane) → AreByKey t.paths.facts
    → IsCleared (state_of t first) s (es ++ e ∷ []) (cleared_of t said s e)
cleared_more t first s es said done e keyed = by (is_none (kept_via t.paths.facts s e.1.0 e.1.1)) refl
  where
    by : (b : Bool) → is_none (kept_via t.paths.facts s e.1.0 e.1.1) ≡ b → IsCleared (state_of t first) s (es ++ e ∷ []) (cond b (told_at said (lane_by s e) empty) said)
    by true is = cleared_gone (state_of t first) s es said done e (nobody_there t first s e keyed is)
    by false is = cleared_kept (state_of t first) s es said done e (somebody_there t first s e keyed is)

-- ---- lanes that are cleared, and then others
both_cleared : (t : Tables) (s : Session) (es ds : List SessionLane) (first said last : Said) → IsCleared (state_of t first) s es said → IsCleared (state_of t said) s ds last
    → IsCleared (state_of t first) s (es ++ ds) last
both_cleared t s es ds first said last a b = record {
  at = λ c l. ⊎_elim (λ (same : said_at last l ≡ said_at said l). ⊎_elim (λ (old : said_at said l ≡ said_at first l). inl (same ∙ old))
      (λ (gone : (said_at said l ≡ empty) × (has (lanes (facts_of c (state_of t first))) l ≡ false)). inr (same ∙ gone.0, gone.1)) (a.at c l))
      (λ (gone : (said_at last l ≡ empty) × (has (lanes (facts_of c (state_of t said))) l ≡ false)). inr gone) (b.at c l);
  gone = λ c e i off. ⊎_elim (λ (j : In e es). ⊎_elim (λ (same : said_at last (lane_by s e) ≡ said_at said (lane_by s e)). same ∙ a.gone c e j off)
      (λ (gone : (said_at last (lane_by s e) ≡ empty) × (has (lanes (facts_of c (state_of t said))) (lane_by s e) ≡ false)). gone.0) (b.at c (lane_by s e))) (λ (j : In e ds). b.gone c e j off)
      (in_append e es ds i);
  some = b.some;
}

pub cleared_all : (t : Tables) (s : Session) (hops : List NextHop) (first one two last : Said) → IsCleared (state_of t first) s (lanes_of Wild hops) one
    → IsCleared (state_of t one) s (lanes_of Fixed hops) two → IsCleared (state_of t two) s (lanes_of Shared hops) last → IsCleared (state_of t first) s (lanes_by hops) last
cleared_all t s hops first one two last a b c = both_cleared t s (lanes_of Wild hops) (lanes_of Fixed hops ++ lanes_of Shared hops) first one last a
    (both_cleared t s (lanes_of Fixed hops) (lanes_of Shared hops) one two last b c)

-- ---- what is forgotten of a lane
-- found in place
pub copied_there : {A : Type 0} (r : Option (Bor A)) → is_some (option_copied r) ≡ is_some r
copied_there None = refl
copied_there (Some x) = refl

-- a lane to which nothing was said has nothing to forget
pub forgets_none : (said : Said) (l : Lane) → has said l ≡ false → said ≡ told_at said l empty
forgets_none said l off = sym (without_absent lane_keys said l (by (get said l) off))
  where
    by : (w : Option PartTable) → is_some w ≡ false → w ≡ None
    by None e = refl
    by (Some t) e = cc

-- and keeps all, whether a path comes from its hop or none does
pub keeps_none : (b : Bool) (said : Said) (l : Lane) → has said l ≡ false → said ≡ cond b (told_at said l empty) said
keeps_none true said l off = forgets_none said l off
keeps_none false said l off = refl

-- a step of a loop over the hops
module _ (t : Tables) (first : Said) (s : Session) (st : StyleKind) (list : List NextHop) (i : ℕ) (d : NextHop) (h : i < length list) (said : Said)
    (done : IsCleared (state_of t first) s (lanes_of st (take i list)) said) where
  pub step_cleared : AreByKey t.paths.facts → IsCleared (state_of t first) s (lanes_of st (take (i + 1) list)) (cleared_of t said s (st, slice_index_or list i d))
  step_cleared keyed =
      subst (λ es. IsCleared (state_of t first) s es (cleared_of t said s (st, slice_index_or list i d))) (sym (lanes_more st list i d h))
      (cleared_more t first s (lanes_of st (take i list)) said done (st, slice_index_or list i d) keyed)
