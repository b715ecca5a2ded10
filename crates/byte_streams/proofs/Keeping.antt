-- What a reader has, and what is left behind it.
use Rattle.std.proofs.Common.{◌≡◌, ℕ, List, [], ◌∷◌, ◌++◌, Option, None, Some, length, sym, ap, subst, ◌∙◌, append_assoc, append-nil, arith, false, is_some, true}
use Rattle.std.specs.Io.KnownBytes.{Keeps, Consumes, IsAtEnd, prepend_known}
use Rattle.script_words.specs.Lines.{text_lines}
use Rattle.byte_streams.specs.Streams.{GivesLine, HasFeed, HasNoFeed, IsLong, HasNoLine}

pub keeps_more : (a b c : Option (List ℕ)) (old new bs : List ℕ) → Keeps a (prepend_known old b) → Consumes b c bs → new ≡ old ++ bs → Keeps a (prepend_known new c)
keeps_more None b c old new bs k t e = tt
keeps_more (Some x) None c old new bs k t e = absurd k
keeps_more (Some x) (Some y) None old new bs k t e = absurd t
keeps_more (Some x) (Some y) (Some z) old new bs k t e = ap (λ l. l ++ z) e ∙ append_assoc old bs z ∙ ap (λ l. old ++ l) (sym t) ∙ k

pub gives_line : (a b : Option (List ℕ)) (old new line : List ℕ) → Keeps a (prepend_known old b) → ((rest : List ℕ) → text_lines (old ++ rest) ≡ line ∷ text_lines (new ++ rest))
    → GivesLine a (prepend_known new b) line
gives_line None b old new line k h = tt
gives_line (Some x) None old new line k h = absurd k
gives_line (Some x) (Some y) old new line k h = ap (λ t. text_lines t) (sym k) ∙ h y

pub has_long : (a b : Option (List ℕ)) (old : List ℕ) → Keeps a (prepend_known old b) → ((rest : List ℕ) → IsLong 2048 (Some (old ++ rest))) → IsLong 2048 a
has_long None b old k h = tt
has_long (Some x) None old k h = absurd k
has_long (Some x) (Some y) old k h = subst (λ t. IsLong 2048 (Some t)) k (h y)

pub gives_last : (a b : Option (List ℕ)) (old new line : List ℕ) → Keeps a (prepend_known old b) → IsAtEnd b → text_lines old ≡ line ∷ [] → new ≡ [] → GivesLine a (prepend_known new b) line
gives_last None b old new line k end h e = tt
gives_last (Some x) None old new line k end h e = absurd k
gives_last (Some x) (Some y) old new line k end h e =
    ap (λ t. text_lines t) (sym k ∙ ap (λ l. old ++ l) end ∙ append-nil old) ∙ h ∙ sym (ap (λ t. line ∷ text_lines t) (ap (λ l. l ++ y) e ∙ end))

pub has_none : (a b : Option (List ℕ)) (old : List ℕ) → Keeps a (prepend_known old b) → IsAtEnd b → text_lines old ≡ [] → HasNoLine a
has_none None b old k end h = tt
has_none (Some x) None old k end h = absurd k
has_none (Some x) (Some y) old k end h = ap (λ t. text_lines t) (sym k ∙ ap (λ l. old ++ l) end ∙ append-nil old) ∙ h

pub nothing_more : (old new bs : List ℕ) → new ≡ old ++ bs → 0 ≡ length bs → new ≡ old
nothing_more old new [] e z = e ∙ append-nil old
nothing_more old new (x ∷ xs) e z = absurd (omega (arith, z))

-- a line feed is among bytes, or none is
pub no_feed : (bytes : List ℕ) → HasFeed bytes → HasNoFeed bytes → ⊥
no_feed bytes some none = let z : false ≡ true = sym (ap is_some none) ∙ some in cc
