-- Books that move with a table step by step, and names that leave one after another.
use Rattle.std.specs.Prelude.{◌≡◌, ℕ, ◌+◌, ◌<◌, List, [], ◌∷◌, ◌++◌, map as each, length, take, refl}
use Rattle.std.proofs.Common.{sym, ap, subst, ◌∙◌, get_or}
use Rattle.std.proofs.lemmas.List.{map-append, take_more}
use Rattle.std.proofs.lemmas.List.Elements.{filter_map-append}
use Rattle.admission_book.specs.Book.{Entries}
use Rattle.rsvp_base.specs.Table.{changed}
use Rattle.rsvp_base.specs.declared.session.Sender.{Sender}
use Rattle.rsvp_base.specs.declared.session.Session.{Session}
use Rattle.rsvp_base.specs.declared.style.StyleKind.{StyleKind}
use Rattle.rsvp_base.specs.declared.style.StyleKind.TheVariants.{Wild, Fixed, Shared}
use Rattle.resv_state.specs.Leaving.{forgotten}
use Rattle.resv_state.specs.Resvs.{ResvFacts, ResvMap}
use Rattle.router_rules.specs.Facts.{Facts, Resvs, SenderKey, resvs_of, with_resvs}
use Rattle.laws_bounds.proofs.Leaving.{as_it_was, table_put}
use Rattle.resv_admission.specs.Forgotten.{forgotten_all}
use Rattle.resv_admission.specs.State.{resv_at}
use Rattle.router_aging.specs.Losing.{lost_at, lost_names}
use Rattle.router_aging.specs.Passing.{dead_key}
use Rattle.router_aging.specs.declared.dead.DeadPath.{DeadPath}
use Rattle.resv_admission.specs.Dying.{IsBookBut, IsBookButWith}
use Rattle.resv_admission.specs.Kept.{IsBookOf, IsBookWith, MovesWith, facts_with}

with_same : (st : StyleKind) (c : ℕ) (m : ResvFacts) (f : Facts) → resvs_of st f ≡ changed (resv_at c) m → facts_with st c m f ≡ f
with_same st c m f e = ap (λ t. with_resvs st t f) (sym e) ∙ (λ i. record f { resvs = as_it_was st f.resvs i })

with_twice : (st : StyleKind) (t u : Resvs) (f : Facts) → with_resvs st u (with_resvs st t f) ≡ with_resvs st u f
with_twice Wild t u f = refl
with_twice Fixed t u f = refl
with_twice Shared t u f = refl

pub moves_not : (st : StyleKind) (m : ResvFacts) (es : Entries) → MovesWith st m m es es
moves_not st m es c f e b = subst (λ (g : Facts). IsBookOf g es) (sym (with_same st c m f e)) b

pub moves_both : (st : StyleKind) (a b d : ResvFacts) (x y z : Entries) → MovesWith st a b x y → MovesWith st b d y z → MovesWith st a d x z
moves_both st a b d x y z first second c f e k =
    subst (λ (g : Facts). IsBookOf g z) (with_twice st (changed (resv_at c) b) (changed (resv_at c) d) f)
    (second c (facts_with st c b f) (table_put st (changed (resv_at c) b) f.resvs) (first c f e k))

pub kept_after : (st : StyleKind) (m new : ResvFacts) (x y : Entries) → IsBookWith st m x → MovesWith st m new x y → IsBookWith st new y
kept_after st m new x y k moves =
    record {
      clock = k.clock;
      facts = facts_with st k.clock new k.facts;
      resvs = table_put st (changed (resv_at k.clock) new) k.facts.resvs;
      book = moves k.clock k.facts k.resvs k.book;
    }

-- ---- names
pub forgotten_both : (gs hs : List (Session × Sender)) (t : ResvFacts) → forgotten_all (gs ++ hs) t ≡ forgotten_all hs (forgotten_all gs t)
forgotten_both [] hs t = refl
forgotten_both (g ∷ gs) hs t = forgotten_both gs hs (changed (forgotten g.0 g.1) t)

pub lost_more : (st : StyleKind) (f : Facts) (ks : List SenderKey) (k : SenderKey) (t : ResvFacts)
    → forgotten_all (lost_names st f (k ∷ [])) (forgotten_all (lost_names st f ks) t) ≡ forgotten_all (lost_names st f (ks ++ k ∷ [])) t
lost_more st f ks k t = sym (forgotten_both (lost_names st f ks) (lost_names st f (k ∷ [])) t) ∙ ap (λ gs. forgotten_all gs t) (sym (filter_map-append (lost_at st f) ks (k ∷ [])))

-- ---- a dead one fewer
pub still_but : (st : StyleKind) (old new : ResvMap) (x y : Entries) → new.facts ≡ old.facts → IsBookButWith st old.facts old.dead x
    → ((c : ℕ) (f : Facts) → resvs_of st f ≡ changed (resv_at c) old.facts → IsBookBut st old.dead f x → IsBookBut st new.dead f y) → IsBookButWith st new.facts new.dead y
still_but st old new x y same k moves =
    record {
      clock = k.clock;
      facts = k.facts;
      resvs = k.resvs ∙ ap (λ (m : ResvFacts). changed (resv_at k.clock) m) (sym same);
      book = moves k.clock k.facts k.resvs k.book;
    }

-- the name of one more of a list
pub next_lost : (st : StyleKind) (f : Facts) (old now new : ResvMap) (list : List DeadPath) (i : ℕ) (d : DeadPath) → i < length list
    → now ≡ record old { facts = forgotten_all (lost_names st f (each dead_key (take i list))) old.facts }
    → new ≡ record now { facts = forgotten_all (lost_names st f (dead_key (get_or list i d) ∷ [])) now.facts }
    → new ≡ record old { facts = forgotten_all (lost_names st f (each dead_key (take (i + 1) list))) old.facts }
next_lost st f old now new list i d lt was is =
    is ∙ (λ j. record (was j) { facts = forgotten_all (lost_names st f (dead_key (get_or list i d) ∷ [])) (was j).facts })
    ∙ (λ j. record old { facts = lost_more st f (each dead_key (take i list)) (dead_key (get_or list i d)) old.facts j })
    ∙ (λ j. record old { facts = forgotten_all (lost_names st f (more j)) old.facts })
  where
    more : each dead_key (take i list) ++ dead_key (get_or list i d) ∷ [] ≡ each dead_key (take (i + 1) list)
    more = sym (map-append dead_key (take i list) (get_or list i d ∷ [])) ∙ ap (each dead_key) (sym (take_more list i d lt))
