-- What a reader that takes memory answers.
use Rattle.std.specs.Prelude.{◌≡◌, Option, None, Some, Result, Ok, Err}
use Rattle.script_words.specs.declared.unread.Unread.{Unread}
use Rattle.script_words.specs.declared.unread.Unread.TheVariants.{Word, NoMemory}

-- nothing was there to be read, unless memory ran out
abbrev pub Misses : {X : Type 0} → Unread → Option X → Type 0
Misses Word found = found ≡ None
Misses NoMemory found = Unit {0}

-- what was read, as `view` shows it, is what is there
abbrev pub ReadsAs : {X Y : Type 0} → (X → Y) → Result X Unread → Option Y → Type 0
ReadsAs view (Ok x) found = found ≡ Some (view x)
ReadsAs view (Err e) found = Misses e found

abbrev pub Reads : {X : Type 0} → Result X Unread → Option X → Type 0
Reads result found = ReadsAs (λ x. x) result found
