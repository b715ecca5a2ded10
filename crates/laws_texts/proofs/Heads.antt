-- The lines of reports and of deliveries: which of them read as heads, and with which numbers.
use Rattle.std.proofs.Common.{◌≡◌, ℕ, zero, suc, le-leb, ◌+◌, ◌-◌, ◌*◌, ◌/◌, ◌%◌, ◌<◌, ◌≤◌, ◌^◌, List, [], ◌∷◌, ◌++◌, Bool, true, false, not, ◌==◌, cond, None, Some, length, refl, sym, ap}
use Rattle.std.proofs.Common.{◌∙◌, arith, append_assoc, length-append}
use Rattle.std.specs.Prelude.{nat_lt, codes, fold, ◌||◌, nat_le, slice_index}
use Rattle.std.specs.Fmt.{decimal}
use Rattle.std.specs.List.{list_all}
use Rattle.std.specs.Str.{bytes_eq}
use Rattle.std.specs.Str.Parse.{AllDigits}
use Rattle.std.proofs.lemmas.Fmt.{decimal_digit, decimal_nonempty, first_decimal, length-decimal-le, digits_value-decimal}
use Rattle.std.proofs.lemmas.Str.Parse.{numerals_by_fold, tells_digits}
use Rattle.rsvp_base.proofs.SetLaws.{and_both, and_made}
use Rattle.rsvp_base.specs.Table.{keys}
use Rattle.rsvp_base.specs.TokenBucket.{TokenBucket}
use Rattle.rsvp_base.specs.declared.addr.Addr.{Addr}
use Rattle.rsvp_base.specs.declared.entry_key.EntryKey.{EntryKey}
use Rattle.rsvp_base.specs.declared.flow.Peak.{Peak}
use Rattle.rsvp_base.specs.declared.flow.Peak.TheVariants.{Finite, Infinite}
use Rattle.rsvp_base.specs.declared.part.Part.{Part}
use Rattle.rsvp_base.specs.declared.session.Sender.{Sender}
use Rattle.rsvp_base.specs.declared.session.Session.{Session}
use Rattle.rsvp_base.specs.declared.style.StyleKind.{StyleKind}
use Rattle.rsvp_base.specs.declared.style.StyleKind.TheVariants.{Wild, Fixed, Shared}
use Rattle.value_texts.specs.Texts.{addr_text, flow_text, name_text, names_text, peak_text, sender_text, session_text, style_text}
use Rattle.value_texts.specs.Reports.{entry_line, head_text}
use Rattle.script_words.specs.Numbers.{is_number, number_of, value_of}
use Rattle.rsvp_base.specs.EndNames.{is_digit}
use Rattle.script_words.specs.Words.{words_of}
use Rattle.script_run.specs.Lines.{whole_lines}
use Rattle.laws_texts.specs.Reading.{IsHead, IsWithin}
use Rattle.laws_texts.proofs.Bytes.{all_parted, digits_before_e, digits_visible, in_digits, is_before_e, is_visible, joined, lacks, weaker}
use Rattle.laws_texts.proofs.Lines.{IsTold, line_first, no_feed, told_line, word_first, word_last}

-- a word: some bytes, none of them a space
abbrev pub IsWord : List ℕ → Type 0
IsWord word = (0 < length word) × (list_all is_visible word ≡ true)

-- ---- numbers
number_word : (n : ℕ) → n < 2 ^ 64 → IsWord (decimal n)
number_word n small = (decimal_nonempty n small, digits_visible n)

value_again : (n : ℕ) → n < 2 ^ 64 → value_of (decimal n) ≡ n
value_again n small =
    digits_value-decimal (numerals_by_fold (AllDigits 10) tells_digits (λ m ds. fold (λ k c. k * 10 + (c - 48)) m ds) (record { empty = λ m. refl; more = λ m c cs k. refl })) n small

-- a number is read as what it is
or_right : (a b : Bool) → b ≡ true → (a || b) ≡ true
or_right true b h = refl
or_right false b h = h

is_written : (n : ℕ) → n < 2 ^ 64 → is_number (decimal n) ≡ true
is_written zero small = ap is_number (decimal_digit 0 (omega arith))
is_written (suc m) small =
    let n = suc m in
    let few = le-leb (length (decimal n)) 20 (length-decimal-le 20 n (omega arith) (omega arith) small) in
    let from = le-leb 49 (slice_index (decimal n) 0) (first_decimal n (omega arith) small) in
    let digits = in_digits is_digit (λ d low. and_made (nat_le 48 (48 + d)) (nat_le (48 + d) 57) (le-leb 48 (48 + d) (omega arith)) (le-leb (48 + d) 57 (omega arith))) n in
    let first = and_made (nat_le 49 (slice_index (decimal n) 0)) (list_all is_digit (decimal n)) from digits in
    or_right (bytes_eq (decimal n) (codes "0")) _ (and_made (nat_le (length (decimal n)) 20) _ few first)

number_read : (n : ℕ) → n < 2 ^ 64 → number_of (decimal n) ≡ Some n
number_read n small = ap (λ (b : Bool). cond b (Some (value_of (decimal n))) None) (is_written n small) ∙ ap (λ (m : ℕ). Some m) (value_again n small)

number_again : (n got : ℕ) → n < 2 ^ 64 → number_of (decimal n) ≡ Some got → got ≡ n
number_again n got small reads = let same : Some n ≡ Some got = sym (number_read n small) ∙ reads in cc

-- ---- words of a line
first_of : List (List ℕ) → List ℕ
first_of [] = []
first_of (a ∷ more) = a

fourth_of : List (List ℕ) → List ℕ
fourth_of (a ∷ b ∷ c ∷ d ∷ more) = d
fourth_of _ = []

sixth_of : List (List ℕ) → List ℕ
sixth_of (a ∷ b ∷ c ∷ d ∷ e ∷ f ∷ more) = f
sixth_of _ = []

-- ---- bytes of a line
pub no_feed_both : (xs ys : List ℕ) → lacks 10 xs ≡ true → lacks 10 ys ≡ true → lacks 10 (xs ++ ys) ≡ true
no_feed_both = joined (λ x. not (x == 10))

-- ---- the head of a report
module _ (name : List ℕ) (is : IsWord name) (held capacity : ℕ) (few : held < 2 ^ 64) (small : capacity < 2 ^ 64) where
  head_line : List ℕ
  head_line = codes "end " ++ name ++ codes " held " ++ decimal held ++ codes " of " ++ decimal capacity

  head_parts : head_line ≡ codes "end" ++ 32 ∷ (name ++ 32 ∷ (codes "held" ++ 32 ∷ (decimal held ++ 32 ∷ (codes "of" ++ 32 ∷ decimal capacity))))
  unfolding head_line
  head_parts =
      append_assoc (codes "end " ++ name ++ codes " held " ++ decimal held) (codes " of ") (decimal capacity)
      ∙ append_assoc (codes "end " ++ name ++ codes " held ") (decimal held) (codes " of " ++ decimal capacity)
      ∙ append_assoc (codes "end " ++ name) (codes " held ") (decimal held ++ (codes " of " ++ decimal capacity))
      ∙ append_assoc (codes "end ") name (codes " held " ++ (decimal held ++ (codes " of " ++ decimal capacity)))

  head_words : words_of head_line ≡ codes "end" ∷ name ∷ codes "held" ∷ decimal held ∷ codes "of" ∷ decimal capacity ∷ []
  head_words =
      ap words_of head_parts
      ∙ word_first (codes "end") (name ++ 32 ∷ (codes "held" ++ 32 ∷ (decimal held ++ 32 ∷ (codes "of" ++ 32 ∷ decimal capacity)))) (omega arith) refl
      ∙ ap (λ (ws : List (List ℕ)). codes "end" ∷ ws)
      (word_first name (codes "held" ++ 32 ∷ (decimal held ++ 32 ∷ (codes "of" ++ 32 ∷ decimal capacity))) is.0 is.1
      ∙ ap (λ (ws : List (List ℕ)). name ∷ ws)
      (word_first (codes "held") (decimal held ++ 32 ∷ (codes "of" ++ 32 ∷ decimal capacity)) (omega arith) refl
      ∙ ap (λ (ws : List (List ℕ)). codes "held" ∷ ws)
      (word_first (decimal held) (codes "of" ++ 32 ∷ decimal capacity) (number_word held few).0 (number_word held few).1
      ∙ ap (λ (ws : List (List ℕ)). decimal held ∷ ws)
      (word_first (codes "of") (decimal capacity) (omega arith) refl ∙ ap (λ (ws : List (List ℕ)). codes "of" ∷ ws)
      (word_last (decimal capacity) (number_word capacity small).0 (number_word capacity small).1)))))

  -- it says what was to be said
  head_within : held ≤ capacity → IsWithin head_line
  unfolding fourth_of sixth_of
  head_within within a b head =
      let same = sym head_words ∙ head.words in
      let sum = ap fourth_of same in
      let most = ap sixth_of same in
      let held_is = number_again held a few (ap number_of sum ∙ head.held_is) in
      let capacity_is = number_again capacity b small (ap number_of most ∙ head.capacity_is) in
      omega (arith, within, held_is, capacity_is)

  head_ended : head_text name held capacity ≡ head_line ++ 10 ∷ []
  unfolding head_text head_line
  head_ended = refl

  head_lacks : lacks 10 head_line ≡ true
  unfolding head_line
  head_lacks =
      no_feed_both (codes "end " ++ name ++ codes " held " ++ decimal held ++ codes " of ") (decimal capacity)
      (no_feed_both (codes "end " ++ name ++ codes " held " ++ decimal held) (codes " of ")
      (no_feed_both (codes "end " ++ name ++ codes " held ") (decimal held) (no_feed_both (codes "end " ++ name) (codes " held ") (no_feed name is.1) refl)
      (no_feed (decimal held) (digits_visible held))) refl)
      (no_feed (decimal capacity) (digits_visible capacity))

  pub told_head : held ≤ capacity → IsTold (head_text name held capacity)
  told_head within = told_line (head_text name held capacity) head_line head_ended head_lacks (head_within within)

  -- it is one line, and read as it was written
  pub read_head : (line : List ℕ) × (whole_lines (head_text name held capacity) ≡ line ∷ []) × IsHead line held capacity
  read_head = (
    head_line,
    ap whole_lines head_ended ∙ line_first head_line [] head_lacks,
    record { name = name; sum = decimal held; most = decimal capacity; words = head_words; held_is = number_read held few; capacity_is = number_read capacity small },
  )

-- ---- values
before_e : (xs ys : List ℕ) → list_all is_before_e xs ≡ true → list_all is_before_e ys ≡ true → list_all is_before_e (xs ++ ys) ≡ true
before_e = joined is_before_e

quad_before_e : (a b c d : ℕ) → list_all is_before_e (decimal a ++ codes "." ++ decimal b ++ codes "." ++ decimal c ++ codes "." ++ decimal d) ≡ true
quad_before_e a b c d =
    let two = before_e (decimal a ++ codes ".") (decimal b) (before_e (decimal a) (codes ".") (digits_before_e a) refl) (digits_before_e b) in
    let three = before_e (decimal a ++ codes "." ++ decimal b ++ codes ".") (decimal c) (before_e (decimal a ++ codes "." ++ decimal b) (codes ".") two refl) (digits_before_e c) in
    before_e (decimal a ++ codes "." ++ decimal b ++ codes "." ++ decimal c ++ codes ".") (decimal d) (before_e (decimal a ++ codes "." ++ decimal b ++ codes "." ++ decimal c) (codes ".") three refl)
    (digits_before_e d)

addr_before_e : (a : Addr) → list_all is_before_e (addr_text a) ≡ true
unfolding addr_text
addr_before_e a = quad_before_e (a.0 / 16777216) (a.0 / 65536 % 256) (a.0 / 256 % 256) (a.0 % 256)

session_before_e : (s : Session) → list_all is_before_e (session_text s) ≡ true
unfolding session_text
session_before_e s =
    let proto = before_e (addr_text s.group ++ codes "/") (decimal s.proto) (before_e (addr_text s.group) (codes "/") (addr_before_e s.group) refl) (digits_before_e s.proto) in
    before_e (addr_text s.group ++ codes "/" ++ decimal s.proto ++ codes "/") (decimal s.port) (before_e (addr_text s.group ++ codes "/" ++ decimal s.proto) (codes "/") proto refl)
    (digits_before_e s.port)

session_some : (s : Session) → 0 < length (session_text s)
unfolding session_text
session_some s =
    omega (arith, length-append (addr_text s.group ++ codes "/" ++ decimal s.proto ++ codes "/") (decimal s.port), length-append (addr_text s.group ++ codes "/" ++ decimal s.proto) (codes "/"))

pub sender_before_e : (s : Sender) → list_all is_before_e (sender_text s) ≡ true
unfolding sender_text
sender_before_e s = before_e (addr_text s.addr ++ codes ":") (decimal s.port) (before_e (addr_text s.addr) (codes ":") (addr_before_e s.addr) refl) (digits_before_e s.port)

sender_some : (s : Sender) → 0 < length (sender_text s)
unfolding sender_text
sender_some s = omega (arith, length-append (addr_text s.addr ++ codes ":") (decimal s.port), length-append (addr_text s.addr) (codes ":"))

-- ---- what values are made of
seen : (xs : List ℕ) → list_all is_before_e xs ≡ true → list_all is_visible xs ≡ true
seen = weaker is_before_e is_visible (λ c h. (and_both (is_visible c) (nat_lt c 101) h).0)

both_seen : (xs ys : List ℕ) → list_all is_visible xs ≡ true → list_all is_visible ys ≡ true → list_all is_visible (xs ++ ys) ≡ true
both_seen = joined is_visible

style_seen : (st : StyleKind) → list_all is_visible (style_text st) ≡ true
style_seen Wild = refl
style_seen Fixed = refl
style_seen Shared = refl

sender_seen : (s : Sender) → list_all is_visible (sender_text s) ≡ true
sender_seen s = seen (sender_text s) (sender_before_e s)

pub session_word : (s : Session) → IsWord (session_text s)
session_word s = (session_some s, seen (session_text s) (session_before_e s))

pub sender_word : (s : Sender) → IsWord (sender_text s)
sender_word s = (sender_some s, sender_seen s)

name_seen : (st : StyleKind) (s : Sender) → list_all is_visible (name_text st s) ≡ true
name_seen Wild s = seen (addr_text s.addr) (addr_before_e s.addr)
name_seen Fixed s = sender_seen s
name_seen Shared s = sender_seen s

names_seen : (st : StyleKind) (names : List Sender) → list_all is_visible (names_text st names) ≡ true
names_seen st names = all_parted is_visible (name_text st) (codes ",") refl (name_seen st) names

pub peak_seen : (p : Peak) → list_all is_visible (peak_text p) ≡ true
peak_seen Infinite = refl
peak_seen (Finite n) = digits_visible n

more_seen : (xs ys : List ℕ) → list_all is_visible xs ≡ true → list_all is_visible ys ≡ true → list_all is_visible (xs ++ codes "/" ++ ys) ≡ true
more_seen xs ys h k = both_seen (xs ++ codes "/") ys (both_seen xs (codes "/") h refl) k

flow_seen : (f : TokenBucket) → list_all is_visible (flow_text f) ≡ true
unfolding flow_text
flow_seen f =
    let depth = more_seen (decimal f.r) (decimal f.b) (digits_visible f.r) (digits_visible f.b) in
    let peak = more_seen (decimal f.r ++ codes "/" ++ decimal f.b) (peak_text f.p) depth (peak_seen f.p) in
    let low = more_seen (decimal f.r ++ codes "/" ++ decimal f.b ++ codes "/" ++ peak_text f.p) (decimal f.low) peak (digits_visible f.low) in
    more_seen (decimal f.r ++ codes "/" ++ decimal f.b ++ codes "/" ++ peak_text f.p ++ codes "/" ++ decimal f.low) (decimal f.most) low (digits_visible f.most)

-- ---- an entry: its first word is no `end`
no_head : (line word : List ℕ) (more : List (List ℕ)) → words_of line ≡ word ∷ more → list_all is_before_e word ≡ true → IsWithin line
unfolding first_of
no_head line word more words low = λ a b head.
    let same : word ≡ codes "end" = ap first_of (sym words ∙ head.words) in
    let no : false ≡ true = ap (list_all is_before_e) (sym same) ∙ low in
    absurd (cc)

-- a line begins with this word, and goes on behind it
abbrev Begins : List ℕ → List ℕ → Type 0
Begins word line = (rest : List ℕ) × (line ≡ word ++ 32 ∷ rest)

goes_on : (word line more : List ℕ) → Begins word line → Begins word (line ++ more)
goes_on word line more b = (b.0 ++ more, ap (λ (t : List ℕ). t ++ more) b.1 ∙ append_assoc word (32 ∷ b.0) more)

module _ (key : EntryKey) (part : Part) (more : List ℕ) where
  -- in front of the senders, of the flow and of the rest
  to_senders : List ℕ
  to_senders = session_text key.session ++ codes " " ++ style_text key.style ++ codes " "

  to_flow : List ℕ
  to_flow = to_senders ++ names_text key.style (keys part.senders) ++ codes " "

  line_of : List ℕ
  line_of = to_flow ++ flow_text part.flow ++ more

  entry_ended : entry_line key part more ≡ line_of ++ 10 ∷ []
  unfolding entry_line line_of to_flow to_senders
  entry_ended = refl

  begins : Begins (session_text key.session) line_of
  unfolding line_of to_flow to_senders
  begins =
      let session = session_text key.session in
      let style = goes_on session (session ++ codes " " ++ style_text key.style) (codes " ") (goes_on session (session ++ codes " ") (style_text key.style) ([], refl)) in
      let names = goes_on session (to_senders ++ names_text key.style (keys part.senders)) (codes " ") (goes_on session to_senders (names_text key.style (keys part.senders)) style) in
      goes_on session (to_flow ++ flow_text part.flow) more (goes_on session to_flow (flow_text part.flow) names)

  entry_lacks : lacks 10 more ≡ true → lacks 10 line_of ≡ true
  unfolding line_of to_flow to_senders
  entry_lacks h =
      let session = session_text key.session in
      let style = style_text key.style in
      let names = names_text key.style (keys part.senders) in
      let first = no_feed_both session (codes " ") (no_feed session (seen session (session_before_e key.session))) refl in
      let styled = no_feed_both (session ++ codes " " ++ style) (codes " ") (no_feed_both (session ++ codes " ") style first (no_feed style (style_seen key.style))) refl in
      let named = no_feed_both (to_senders ++ names) (codes " ") (no_feed_both to_senders names styled (no_feed names (names_seen key.style (keys part.senders)))) refl in
      no_feed_both (to_flow ++ flow_text part.flow) more (no_feed_both to_flow (flow_text part.flow) named (no_feed (flow_text part.flow) (flow_seen part.flow))) h

  entry_words : words_of line_of ≡ session_text key.session ∷ words_of begins.0
  entry_words = ap words_of begins.1 ∙ word_first (session_text key.session) begins.0 (session_some key.session) (seen (session_text key.session) (session_before_e key.session))

  pub told_entry : lacks 10 more ≡ true → IsTold (entry_line key part more)
  told_entry h = told_line (entry_line key part more) line_of entry_ended (entry_lacks h) (no_head line_of (session_text key.session) (words_of begins.0) entry_words (session_before_e key.session))
