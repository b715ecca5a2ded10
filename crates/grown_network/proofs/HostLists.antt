-- Lists of what hosts ask, one more at the end; and rates that are small.
use Rattle.std.proofs.Common.{◌≡◌, ℕ, ◌+◌, ◌*◌, ◌%◌, ◌^◌, ◌<◌, ◌≤◌, zero, suc, Bool, true, false, cond, List, [], ◌∷◌, ◌++◌, length, Result, Ok, Err, refl, sym, ap, ◌∙◌, arith, append_assoc, ⊎_elim}
use Rattle.std.specs.Prelude.{map as each, OnOk, IsErr, ◌↔◌}
use Rattle.std.specs.Int.{bit_at}
use Rattle.std.specs.List.{filter, flat_map, range_with_len}
use Rattle.std.proofs.Math.Nat.{div-eq_of_lt, pow-le-pow_right}
use Rattle.std.proofs.lemmas.List.FromFn.{length-range_with_len, map-range_with_len_more}
use Rattle.std.proofs.lemmas.Bool.{cases_lt}
use Rattle.std.proofs.lemmas.List.{length-map}
use Rattle.rsvp_base.specs.Orders.{Names, senders as by_sender}
use Rattle.rsvp_base.specs.Rates.{IsRate}
use Rattle.rsvp_base.specs.Sets.{set_of, with_key, with_keys}
use Rattle.rsvp_base.specs.Table.{size}
use Rattle.rsvp_base.specs.declared.session.Sender.{Sender}
use Rattle.rsvp_base.specs.declared.session.Session.{Session}
use Rattle.rsvp_base.specs.declared.style.StyleKind.{StyleKind}
use Rattle.rsvp_base.specs.declared.style.StyleKind.TheVariants.{Wild, Fixed, Shared}
use Rattle.rsvp_base.proofs.Counts.{size-set_of}
use Rattle.tree_model.specs.declared.locals.LocalSender.{LocalSender}
use Rattle.network_model.specs.Steps.{next_state, state_after, word_for, word_of_state}
use Rattle.grown_network.specs.declared.hosts.Wanted.{Wanted}
use Rattle.grown_network.specs.Hosts.{is_named, local_sender, sender_node, sender_of, senders, senders_of, session_of, session_word, wanted_at, wanted_by, want_word, wants_up_to}
use Rattle.grown_network.proofs.Hanging.{flat_append}
use Rattle.grown_network.proofs.Planting.{each_append, filter_append}
use Rattle.grown_network.proofs.Ranges.{range_more}

append_none : {A : Type 0} (xs : List A) → xs ++ [] ≡ xs
append_none [] = refl
append_none {A} (x ∷ xs) = ap (λ (ys : List A). x ∷ ys) (append_none xs)

-- ---- words
pub state_more : (n x : ℕ) → state_after (n + 1) x ≡ next_state (state_after n x)
state_more n x = let next : n + 1 ≡ suc n = omega arith in ap (λ m. state_after m x) next ∙ more n x
  where
    more : (n x : ℕ) → state_after (suc n) x ≡ next_state (state_after n x)
    more zero x = refl
    more (suc n) x = more n (next_state x)

-- the word drawn from a state that so many words have led to
pub word_drawn : (seed n state word : ℕ) → state ≡ next_state (state_after n seed) → word ≡ word_of_state state → word ≡ word_for seed n
word_drawn seed n state word is drawn = let next : n + 1 ≡ suc n = omega arith in drawn ∙ ap word_of_state (is ∙ sym (state_more n seed) ∙ ap (λ m. state_after m seed) next)

-- ---- rates
pub small_is_rate : (n : ℕ) → n < 2 ^ 24 → IsRate n
small_is_rate n few = record { small = omega arith; near = λ i j a b. let lt = low j b in omega arith }
  where
    low : (j : ℕ) → bit_at n j ≡ 1 → j < 24
    low j on =
        ⊎_elim (λ (h : j < 24). h)
        (λ (h : 24 ≤ j).
        let wide = pow-le-pow_right {n = 2} (omega arith) {i = 24} {j = j} h in
        let none : bit_at n j ≡ 0 = ap (λ m. m % 2) (div-eq_of_lt {n = n} {m = 2 ^ j} (omega (arith, few, wide))) in
        let z : 0 ≡ 1 = sym none ∙ on in
        absurd (omega (arith, z))) (cases_lt j 24)

-- ---- senders
pub senders_more : (st : StyleKind) (word n : ℕ) → each (local_sender st word) (range_with_len 0 (n + 1)) ≡ each (local_sender st word) (range_with_len 0 n) ++ local_sender st word n ∷ []
senders_more st word n = map-range_with_len_more (local_sender st word) 0 n n (omega arith)

-- ---- names
abbrev chosen : ℕ → ℕ → ℕ → List Sender
chosen word digit n = each (sender_of word) (filter (is_named digit) (range_with_len 0 n))

one_chosen : (word digit n : ℕ) → chosen word digit (n + 1) ≡ chosen word digit n ++ each (sender_of word) (filter (is_named digit) (n ∷ []))
one_chosen word digit n =
    let swap : 0 + n ≡ n = omega arith in
    ap (λ (ks : List ℕ). each (sender_of word) (filter (is_named digit) ks)) (range_more 0 n ∙ ap (λ (k : ℕ). range_with_len 0 n ++ k ∷ []) swap)
    ∙ ap (each (sender_of word)) (filter_append (is_named digit) (range_with_len 0 n) (n ∷ []))
    ∙ each_append (sender_of word) (filter (is_named digit) (range_with_len 0 n)) (filter (is_named digit) (n ∷ []))

pub not_chosen : (word digit n : ℕ) (names next : Names) → is_named digit n ≡ false → next ≡ names → names ≡ set_of (chosen word digit n) → next ≡ set_of (chosen word digit (n + 1))
not_chosen word digit n names next off same is =
    same ∙ is ∙ sym (ap set_of (one_chosen word digit n ∙ ap (λ (b : Bool). chosen word digit n ++ each (sender_of word) (cond b (n ∷ []) [])) off ∙ append_none (chosen word digit n)))

few_filtered : (p : ℕ → Bool) (xs : List ℕ) → length (filter p xs) ≤ length xs
few_filtered p [] = omega arith
few_filtered p (x ∷ xs) = by (p x) (few_filtered p xs)
  where
    by : (b : Bool) → length (filter p xs) ≤ length xs → length (cond b (x ∷ filter p xs) (filter p xs)) ≤ suc (length xs)
    by true le = omega (arith, le)
    by false le = omega (arith, le)

few_chosen : (word digit n : ℕ) → length (chosen word digit n) ≤ n
few_chosen word digit n =
    let a = length-map (filter (is_named digit) (range_with_len 0 n)) (sender_of word) in
    let b = few_filtered (is_named digit) (range_with_len 0 n) in
    let c = length-range_with_len 0 n in
    omega (arith, a, b, c)

set_push : (m : Names) (xs : List Sender) (x : Sender) → with_keys m (xs ++ x ∷ []) ≡ with_key (with_keys m xs) x
set_push m [] x = refl
set_push m (y ∷ xs) x = set_push (with_key m y) xs x

pub is_chosen : {T E : Type 0} (word digit n : ℕ) (names next : Names) (x : Sender) (r : Result T E) → n < 4 → is_named digit n ≡ true → x ≡ sender_of word n → OnOk r (next ≡ with_key names x)
    → IsErr r ↔ (16 < size (with_key names x)) → names ≡ set_of (chosen word digit n)
    → next ≡ set_of (chosen word digit (n + 1))
is_chosen word digit n names next x r lt on sender ok full is = by r ok full
  where
    all : with_key names x ≡ set_of (chosen word digit (n + 1))
    all =
        ap (λ (m : Names). with_key m x) is ∙ ap (with_key (set_of (chosen word digit n))) sender
        ∙ sym (ap set_of (one_chosen word digit n ∙ ap (λ (b : Bool). chosen word digit n ++ each (sender_of word) (cond b (n ∷ []) [])) on)
        ∙ set_push (set_of []) (chosen word digit n) (sender_of word n))

    by : {T E : Type 0} (r : Result T E) → OnOk r (next ≡ with_key names x) → IsErr r ↔ (16 < size (with_key names x)) → next ≡ set_of (chosen word digit (n + 1))
    by (Ok t) ok full = ok ∙ all
    by (Err e) ok full =
        let many = full.0 refl in
        let few = size-set_of by_sender (chosen word digit (n + 1)) in
        let least = few_chosen word digit (n + 1) in
        let same = ap size all in
        absurd (omega (arith, many, few, least, same))

-- ---- wants
pub wants_none : (seed : ℕ) (xs : List Wanted) → xs ≡ [] → xs ≡ wants_up_to seed 0
unfolding wants_up_to
wants_none seed xs is = is

pub wants_more : (seed n : ℕ) → wants_up_to seed (n + 1) ≡ wants_up_to seed n ++ wanted_at seed n
unfolding wants_up_to
wants_more seed n =
    let swap : 0 + n ≡ n = omega arith in
    ap (flat_map (wanted_at seed)) (range_more 0 n ∙ ap (λ (k : ℕ). range_with_len 0 n ++ k ∷ []) swap) ∙ flat_append (wanted_at seed) (range_with_len 0 n) (n ∷ [])
    ∙ ap (λ (ys : List Wanted). flat_map (wanted_at seed) (range_with_len 0 n) ++ ys) (append_none (wanted_at seed n))

-- three wants more
pub wants_pushed : (seed n a b c : ℕ) (before one two three : List Wanted) → before ≡ wants_up_to seed n → a ≡ want_word seed n Wild → b ≡ want_word seed n Fixed → c ≡ want_word seed n Shared
    → one ≡ before ++ wanted_by Wild (session_word seed Wild) n a → two ≡ one ++ wanted_by Fixed (session_word seed Fixed) n b → three ≡ two ++ wanted_by Shared (session_word seed Shared) n c
    → three ≡ wants_up_to seed (n + 1)
wants_pushed seed n a b c before one two three is wa wb wc p q r =
    let wild : List Wanted = wanted_by Wild (session_word seed Wild) n (want_word seed n Wild) in
    let fixed : List Wanted = wanted_by Fixed (session_word seed Fixed) n (want_word seed n Fixed) in
    let shared : List Wanted = wanted_by Shared (session_word seed Shared) n (want_word seed n Shared) in
    let p' : one ≡ before ++ wild = p ∙ ap (λ w. before ++ wanted_by Wild (session_word seed Wild) n w) wa in
    let q' : two ≡ one ++ fixed = q ∙ ap (λ w. one ++ wanted_by Fixed (session_word seed Fixed) n w) wb in
    let r' : three ≡ two ++ shared = r ∙ ap (λ w. two ++ wanted_by Shared (session_word seed Shared) n w) wc in
    let all : three ≡ ((wants_up_to seed n ++ wild) ++ fixed) ++ shared = r' ∙ ap (λ (xs : List Wanted). xs ++ shared)
    (q' ∙ ap (λ (xs : List Wanted). xs ++ fixed) (p' ∙ ap (λ (xs : List Wanted). xs ++ wild) is)) in
    all ∙ append_assoc (wants_up_to seed n ++ wild) fixed shared ∙ append_assoc (wants_up_to seed n) wild (fixed ++ shared)
    ∙ ap (λ (ys : List Wanted). wants_up_to seed n ++ (wild ++ (fixed ++ ys))) (sym (append_none shared)) ∙ sym (wants_more seed n)

-- ---- words, three by three
pub record AreThree (a b c : ℕ) (x y z : ℕ) : Type 0 where
  pub wild : a ≡ x
  pub fixed : b ≡ y
  pub shared : c ≡ z

pub three_words : (seed n s0 s1 s2 s3 a b c : ℕ) → s0 ≡ state_after n seed → s1 ≡ next_state s0 → a ≡ word_of_state s1 → s2 ≡ next_state s1 → b ≡ word_of_state s2 → s3 ≡ next_state s2
    → c ≡ word_of_state s3
    → AreThree a b c (word_for seed n) (word_for seed (n + 1)) (word_for seed (n + 2)) × (s3 ≡ state_after (n + 3) seed)
three_words seed n s0 s1 s2 s3 a b c is p wa q wb r wc =
    let after1 : s1 ≡ state_after (n + 1) seed = p ∙ ap next_state is ∙ sym (state_more n seed) in
    let after2 : s2 ≡ state_after (n + 1 + 1) seed = q ∙ ap next_state after1 ∙ sym (state_more (n + 1) seed) in
    let after3 : s3 ≡ state_after (n + 1 + 1 + 1) seed = r ∙ ap next_state after2 ∙ sym (state_more (n + 1 + 1) seed) in
    let two : n + 1 + 1 ≡ n + 2 = omega arith in
    let three : n + 1 + 1 + 1 ≡ n + 3 = omega arith in (
      record {
        wild = word_drawn seed n s1 a (p ∙ ap next_state is) wa;
        fixed = word_drawn seed (n + 1) s2 b (q ∙ ap next_state after1) wb;
        shared = word_drawn seed (n + 1 + 1) s3 c (r ∙ ap next_state after2) wc ∙ ap (word_for seed) two;
      },
      after3 ∙ ap (λ m. state_after m seed) three,
    )

-- those of the sessions
pub session_words : (seed s0 s1 s2 s3 a b c : ℕ) → s0 ≡ seed → s1 ≡ next_state s0 → a ≡ word_of_state s1 → s2 ≡ next_state s1 → b ≡ word_of_state s2 → s3 ≡ next_state s2 → c ≡ word_of_state s3
    → AreThree a b c (session_word seed Wild) (session_word seed Fixed) (session_word seed Shared) × (s3 ≡ state_after 3 seed)
session_words seed s0 s1 s2 s3 a b c is p wa q wb r wc = three_words seed 0 s0 s1 s2 s3 a b c is p wa q wb r wc

-- those of a node
pub want_words : (seed n s0 s1 s2 s3 a b c : ℕ) → s0 ≡ state_after (3 + 3 * n) seed → s1 ≡ next_state s0 → a ≡ word_of_state s1 → s2 ≡ next_state s1 → b ≡ word_of_state s2 → s3 ≡ next_state s2
    → c ≡ word_of_state s3
    → AreThree a b c (want_word seed n Wild) (want_word seed n Fixed) (want_word seed n Shared) × (s3 ≡ state_after (3 + 3 * (n + 1)) seed)
want_words seed n s0 s1 s2 s3 a b c is p wa q wb r wc =
    let all = three_words seed (3 + 3 * n) s0 s1 s2 s3 a b c is p wa q wb r wc in
    let zero' : 3 + 3 * n ≡ 3 + (3 * n + 0) = omega arith in
    let one : 3 + 3 * n + 1 ≡ 3 + (3 * n + 1) = omega arith in
    let two : 3 + 3 * n + 2 ≡ 3 + (3 * n + 2) = omega arith in
    let three : 3 + 3 * n + 3 ≡ 3 + 3 * (n + 1) = omega arith in
    (record { wild = all.0.wild ∙ ap (word_for seed) zero'; fixed = all.0.fixed ∙ ap (word_for seed) one; shared = all.0.shared ∙ ap (word_for seed) two }, all.1 ∙ ap (λ m. state_after m seed) three)

-- the senders of three sessions
pub senders_pushed : (seed a b c : ℕ) (before one two three : List LocalSender) → before ≡ [] → AreThree a b c (session_word seed Wild) (session_word seed Fixed) (session_word seed Shared)
    → one ≡ before ++ senders_of Wild a → two ≡ one ++ senders_of Fixed b → three ≡ two ++ senders_of Shared c → three ≡ senders seed
unfolding senders
senders_pushed seed a b c before one two three none are p q r =
    let p' : one ≡ senders_of Wild (session_word seed Wild) = p ∙ ap (λ (xs : List LocalSender). xs ++ senders_of Wild a) none ∙ ap (senders_of Wild) are.wild in
    let q' : two ≡ one ++ senders_of Fixed (session_word seed Fixed) = q ∙ ap (λ w. one ++ senders_of Fixed w) are.fixed in
    let r' : three ≡ two ++ senders_of Shared (session_word seed Shared) = r ∙ ap (λ w. two ++ senders_of Shared w) are.shared in
    r' ∙ ap (λ (xs : List LocalSender). xs ++ senders_of Shared (session_word seed Shared)) (q' ∙ ap (λ (xs : List LocalSender). xs ++ senders_of Fixed (session_word seed Fixed)) p')

-- a sender more
pub sender_pushed : (st : StyleKind) (word i : ℕ) (before hs next : List LocalSender) (n : ℕ) (s : Session) (x : Sender) → n ≡ sender_node word i → s ≡ session_of st → x ≡ sender_of word i
    → hs ≡ before ++ each (local_sender st word) (range_with_len 0 i) → next ≡ hs ++ (record { node = n; session = s; sender = x }) ∷ []
    → next ≡ before ++ each (local_sender st word) (range_with_len 0 (i + 1))
sender_pushed st word i before hs next n s x node session sender is pushed =
    let new : ◌≡◌ {A = LocalSender} (record { node = n; session = s; sender = x }) (local_sender st word i) = λ k. record { node = node k; session = session k; sender = sender k } in
    pushed ∙ ap (λ (y : LocalSender). hs ++ y ∷ []) new ∙ ap (λ (xs : List LocalSender). xs ++ local_sender st word i ∷ []) is
    ∙ append_assoc before (each (local_sender st word) (range_with_len 0 i)) (local_sender st word i ∷ [])
    ∙ ap (λ (xs : List LocalSender). before ++ xs) (sym (senders_more st word i))
