-- Senders whose trees go out of an interface, by the names of a style.
use Rattle.std.specs.Prelude.{◌≡◌, ℕ, ◌+◌, ◌<◌, ◌≤◌, ◌||◌, Bool, true, false, cond, List, [], ◌∷◌, ◌++◌, map as each, length, take, drop, refl}
use Rattle.std.specs.List.{filter, list_any}
use Rattle.std.specs.Ordering.{eq_by_cmp}
use Rattle.std.proofs.Common.{sym, ap, ◌∙◌, arith, get_or}
use Rattle.std.proofs.lemmas.List.{map-append, take_more, take-append-drop}
use Rattle.std.proofs.lemmas.List.Elements.{filter-append}
use Rattle.std.proofs.lemmas.List.Folds.{list_any-append}
use Rattle.rsvp_base.specs.Orders.{Names, senders}
use Rattle.rsvp_base.specs.Sets.{set_of, union, with_key}
use Rattle.rsvp_base.specs.Styles.{name_of}
use Rattle.rsvp_base.specs.Table.{has, kept, keys, size}
use Rattle.rsvp_base.specs.declared.session.Sender.{Sender}
use Rattle.rsvp_base.specs.declared.style.StyleKind.{StyleKind}
use Rattle.rsvp_base.specs.declared.style.StyleKind.TheVariants.{Wild, Fixed, Shared}
use Rattle.rsvp_base.proofs.Counts.{has-set_of}
use Rattle.rsvp_base.proofs.SetLaws.{has-union, same_set}
use Rattle.router_rules.specs.Known.{named_as}
use Rattle.laws_bounds.proofs.Knowing.{named_told}
use Rattle.laws_sends.proofs.Lanes.{filter_keys_kept}
use Rattle.laws_sends.proofs.Via.{set_of_more}
use Rattle.router_aging.proofs.Adding.{size_next}

append_none : {A : Type 0} (xs : List A) → xs ++ [] ≡ xs
append_none [] = refl
append_none (x ∷ xs) = ap (λ ys. x ∷ ys) (append_none xs)

module _ (st : StyleKind) (test : Sender → Bool) where
  abbrev pub out_of : List Sender → Names
  out_of xs = set_of {o = senders} (each (name_of st) (filter test xs))

  out_one : (xs : List Sender) (x : Sender) → out_of (xs ++ x ∷ []) ≡ cond (test x) (with_key (out_of xs) (name_of st x)) (out_of xs)
  out_one xs x = ap (λ ys. set_of {o = senders} (each (name_of st) ys)) (filter-append test xs (x ∷ [])) ∙ by (test x)
    where
      by : (b : Bool) → set_of {o = senders} (each (name_of st) (filter test xs ++ cond b (x ∷ []) []))
          ≡ cond b (with_key (set_of {o = senders} (each (name_of st) (filter test xs))) (name_of st x)) (set_of {o = senders} (each (name_of st) (filter test xs)))
      by true = ap (λ ks. set_of {o = senders} ks) (map-append (name_of st) (filter test xs) (x ∷ [])) ∙ set_of_more senders (each (name_of st) (filter test xs)) (name_of st x)
      by false = ap (λ ys. set_of {o = senders} (each (name_of st) ys)) (append_none (filter test xs))

  pub out_more : (xs : List Sender) (i : ℕ) (d : Sender) → i < length xs → (names : Names) → names ≡ out_of (take i xs)
      → cond (test (get_or xs i d)) (with_key names (name_of st (get_or xs i d))) names ≡ out_of (take (i + 1) xs)
  out_more xs i d lt names is =
      ap (λ (ns : Names). cond (test (get_or xs i d)) (with_key ns (name_of st (get_or xs i d))) ns) is ∙ sym (out_one (take i xs) (get_or xs i d)) ∙ ap out_of (sym (take_more xs i d lt))

  out_both : (xs ys : List Sender) → union (out_of xs) (out_of ys) ≡ out_of (xs ++ ys)
  out_both xs ys =
      same_set senders _ _ (λ q.
      has-union senders (out_of xs) (out_of ys) q ∙ (λ i. has-set_of senders (each (name_of st) (filter test xs)) q i || has-set_of senders (each (name_of st) (filter test ys)) q i)
      ∙ sym (list_any-append (eq_by_cmp senders.cmp q) (each (name_of st) (filter test xs)) (each (name_of st) (filter test ys)))
      ∙ ap (list_any (eq_by_cmp senders.cmp q)) (sym (map-append (name_of st) (filter test xs) (filter test ys)) ∙ ap (each (name_of st)) (sym (filter-append test xs ys)))
      ∙ sym (has-set_of senders (each (name_of st) (filter test (xs ++ ys))) q))

  -- of the senders in two parts
  pub out_in_two : (names : Names) (xs : List Sender) (half : ℕ) → xs ≡ keys names → union (out_of (take half xs)) (out_of (drop half xs)) ≡ named_as st (kept test names)
  out_in_two names xs half is =
      out_both (take half xs) (drop half xs) ∙ ap out_of (take-append-drop half xs ∙ is) ∙ ap (λ ks. set_of {o = senders} (each (name_of st) ks)) (filter_keys_kept senders test names.rows)

-- one name more at most
pub few_next : (b : Bool) (s : Names) (x : Sender) → size (cond b (with_key s x) s) ≤ size s + 1
few_next true s x = size_next s x
few_next false s x = omega arith

-- names of a style are its own names
named_twice : (st : StyleKind) (x : Sender) → name_of st (name_of st x) ≡ name_of st x
named_twice Wild x = refl
named_twice Fixed x = refl
named_twice Shared x = refl

pub own_named : (st : StyleKind) (names : Names) (x : Sender) → has (named_as st names) x ≡ true → name_of st x ≡ x
own_named st names x h = let r = named_told st names x h in ap (name_of st) r.name ∙ named_twice st r.sender ∙ sym r.name
