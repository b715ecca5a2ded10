-- Each session has one style, looked at session by session.
use Rattle.std.specs.Prelude.{◌≡◌, Bool, true, false, cond, List, [], ◌∷◌, refl}
use Rattle.std.specs.List.{All}
use Rattle.std.specs.Ordering.{eq_by_cmp}
use Rattle.std.proofs.Common.{sym, ap, ◌∙◌, ⊎_elim}
use Rattle.rsvp_base.specs.Members.{In}
use Rattle.rsvp_base.specs.Orders.{sessions}
use Rattle.rsvp_base.specs.declared.session.Session.{Session}
use Rattle.rsvp_base.specs.declared.style.StyleKind.{StyleKind}
use Rattle.rsvp_base.specs.declared.style.StyleKind.TheVariants.{Wild}
use Rattle.rsvp_base.proofs.Tables.{tied_self}
use Rattle.tree_model.specs.declared.locals.LocalWant.{LocalWant}
use Rattle.network_demand.specs.Fits.{first_style, IsOfOneStyle}
use Rattle.network_demand.proofs.AllowedLaws.{all_in, in_all}

-- a session that is wanted has a first want
first_any : (ws : List LocalWant) (w : LocalWant) → In w ws → (a b : StyleKind) → first_style w.session a ws ≡ first_style w.session b ws
first_any [] w i a b = absurd i
first_any (v ∷ vs) w i a b = by (λ j. first_any vs w j a b) (eq_by_cmp sessions.cmp w.session v.session) refl
  where
    by : (In w vs → first_style w.session a vs ≡ first_style w.session b vs) → (c : Bool) → eq_by_cmp sessions.cmp w.session v.session ≡ c
        → cond c v.style (first_style w.session a vs) ≡ cond c v.style (first_style w.session b vs)
    by rest true t = refl
    by rest false t =
        rest (⊎_elim (λ (e : w ≡ v). let z : true ≡ false = sym (tied_self sessions w.session) ∙ ap (λ (x : LocalWant). eq_by_cmp sessions.cmp w.session x.session) e ∙ t in absurd (cc))
        (λ (j : In w vs). j) i)

module _ (ws : List LocalWant) where
  pub styles_told : (ss : List Session) → ((w : LocalWant) → In w ws → In w.session ss) → All (IsOfOneStyle ws) ss → All (λ w. first_style w.session w.style ws ≡ w.style) ws
  styles_told ss named all =
      in_all (λ w. first_style w.session w.style ws ≡ w.style) ws
      (λ w i. first_any ws w i w.style Wild ∙ sym (all_in (λ v. v.session ≡ w.session → v.style ≡ first_style w.session Wild ws) ws (all_in (IsOfOneStyle ws) ss all w.session (named w i)) w i refl))

  pub styles_tested : (s : Session) → All (λ w. first_style w.session w.style ws ≡ w.style) ws → IsOfOneStyle ws s
  styles_tested s all =
      in_all (λ w. w.session ≡ s → w.style ≡ first_style s Wild ws) ws
      (λ w i e. sym (all_in (λ v. first_style v.session v.style ws ≡ v.style) ws all w i) ∙ first_any ws w i w.style Wild ∙ ap (λ t. first_style t Wild ws) e)
