-- The senders of a left-over reservation: they are as its style has them.
use Rattle.std.specs.Prelude.{◌≡◌, ℕ, ◌<◌, ◌==◌, true, not, List, [], ◌∷◌, length}
use Rattle.std.proofs.Common.{⊎_elim, arith, refl, sym, ap, ◌∙◌}
use Rattle.std.proofs.lemmas.List.{length-map}
use Rattle.rsvp_base.specs.declared.part.Part.{Part}
use Rattle.rsvp_base.specs.declared.session.Sender.{Sender}
use Rattle.rsvp_base.specs.declared.style.StyleKind.{StyleKind}
use Rattle.rsvp_base.specs.declared.style.StyleKind.TheVariants.{Wild, Fixed, Shared}
use Rattle.rsvp_base.specs.declared.style.Unit.TheVariants.{One, Of}
use Rattle.rsvp_base.specs.Members.{In}
use Rattle.rsvp_base.specs.Orders.{senders as by_sender}
use Rattle.rsvp_base.specs.Styles.{name_of, unit_of, unit_of_first}
use Rattle.rsvp_base.specs.Table.{has, size}
use Rattle.rsvp_base.specs.TokenBucket.{TokenBucket}
use Rattle.rsvp_base.proofs.Counts.{set_of_in}
use Rattle.rsvp_base.proofs.Members.{in_each}
use Rattle.rsvp_base.proofs.Tables.{either}
use Rattle.style_rules.specs.Parts.{IsOfStyle}
use Rattle.script_words.specs.declared.raw.SenderWord.{SenderWord}
use Rattle.script_words.specs.Sessions.{sender_value}
use Rattle.tree_model.proofs.Following.{same_number}
use Rattle.script_grammar.specs.Rules.{IsListOfStyle, sender_list}
use Rattle.script_grammar.specs.Values.{senders_value}
use Rattle.script_rules.specs.StaleForms.{IsResvForm}
use Rattle.script_rules.proofs.Named.{some_named}

named : (n : ℕ) → 0 < n → not (n == 0) ≡ true
named n some = either (n == 0) (λ t. let zero : n ≡ 0 = same_number n 0 t in absurd (omega (arith, some, zero))) (λ f. ap not f)

one_of : (x y a : Sender) (xs : List Sender) → length (a ∷ xs) ≡ 1 → In x (a ∷ xs) → In y (a ∷ xs) → x ≡ y
one_of x y a [] one i j =
    let p : x ≡ a = ⊎_elim (λ (e : x ≡ a). e) (λ (no : ⊥). absurd no) i in
    let q : y ≡ a = ⊎_elim (λ (e : y ≡ a). e) (λ (no : ⊥). absurd no) j in
    p ∙ sym q
one_of x y a (b ∷ xs) one i j = absurd (omega (arith, one))

only_one : (x y : Sender) (xs : List Sender) → length xs ≡ 1 → In x xs → In y xs → x ≡ y
only_one x y [] one i j = absurd i
only_one x y (a ∷ xs) one i j = one_of x y a xs one i j

some_words : (st : StyleKind) (words : List SenderWord) → IsResvForm st words → 0 < length (sender_list words)
some_words Wild words form = let some = form.0 in let size = length-map words sender_value in omega (arith, some, size)
some_words Fixed words form = let size = length-map words sender_value in omega (arith, form, size)
some_words Shared words form = let size = length-map words sender_value in omega (arith, form, size)

names_style : (st : StyleKind) (words : List SenderWord) → IsResvForm st words → (s : Sender) → has (senders_value words) s ≡ true → name_of st s ≡ s
names_style Wild words form s there =
    let w = in_each sender_value s words (set_of_in by_sender (sender_list words) s there) in
    let port : s.port ≡ 0 = ap (λ (z : Sender). z.port) w.2 ∙ form.1 w.0 w.1 in
    λ i. record { addr = s.addr; port = sym port i }
names_style Fixed words form s there = refl
names_style Shared words form s there = refl

unit_style : (st : StyleKind) (words : List SenderWord) → IsListOfStyle st (sender_list words) → (s t : Sender) → has (senders_value words) s ≡ true → has (senders_value words) t ≡ true
    → unit_of st s ≡ unit_of st t
unit_style Wild words one s t a b = refl
unit_style Fixed words one s t a b = ap Of (only_one s t (sender_list words) one (set_of_in by_sender (sender_list words) s a) (set_of_in by_sender (sender_list words) t b))
unit_style Shared words one s t a b = refl

-- the part of a line of its form
abbrev pub part_with : List SenderWord → TokenBucket → Part
part_with words flow = record { senders = senders_value words; flow = flow }

pub of_style : (st : StyleKind) (words : List SenderWord) (flow : TokenBucket) → IsResvForm st words → IsListOfStyle st (sender_list words) → IsOfStyle st (part_with words flow)
of_style st words flow form one = record {
  named = named (size (senders_value words)) (some_named (sender_list words) (some_words st words form));
  listed = names_style st words form;
  one_unit = unit_style st words one;
}

-- the unit of each list of a style that has one unit for all
pub wild_unit : (xs : List Sender) → unit_of_first Wild xs ≡ One
wild_unit [] = refl
wild_unit (x ∷ xs) = refl

pub shared_unit : (xs : List Sender) → unit_of_first Shared xs ≡ One
shared_unit [] = refl
shared_unit (x ∷ xs) = refl
