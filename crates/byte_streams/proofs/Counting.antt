-- Bytes are counted as they are taken.
use Rattle.std.proofs.Common.{◌≡◌, ℕ, ◌+◌, List, [], ◌++◌, Option, None, Some, length, refl, sym, ap, ◌∙◌, arith, length-append}
use Rattle.std.specs.Io.KnownBytes.{Consumes, Keeps}
use Rattle.std.proofs.KnownBytes.{Consumes-trans}
use Rattle.byte_streams.specs.Streams.{IsCounted}

nothing_taken : (a : Option (List ℕ)) → Consumes a a []
nothing_taken None = tt
nothing_taken (Some xs) = refl

kept_still : (a b c : Option (List ℕ)) (bs : List ℕ) → Consumes a b bs → Keeps b c → Consumes a c bs
kept_still None b c bs t k = tt
kept_still (Some x) None c bs t k = absurd t
kept_still (Some x) (Some y) None bs t k = absurd k
kept_still (Some x) (Some y) (Some z) bs t k = t ∙ ap (λ l. bs ++ l) (sym k)

pub counted_none : (a : Option (List ℕ)) (n : ℕ) → IsCounted a a n n
counted_none a n = ([], nothing_taken a, omega arith)

pub counted_more : (a b c : Option (List ℕ)) (m n k : ℕ) (bs : List ℕ) → IsCounted a b m n → Consumes b c bs → k ≡ n + length bs → IsCounted a c m k
counted_more a b c m n k bs t u e = (t.0 ++ bs, Consumes-trans a b c t.0 bs t.1 u, omega (arith, e, t.2, length-append t.0 bs))

pub counted_still : (a b c : Option (List ℕ)) (m n : ℕ) → IsCounted a b m n → Keeps b c → IsCounted a c m n
counted_still a b c m n t k = (t.0, kept_still a b c t.0 t.1 k, t.2)
