-- Laws of what is shown.
use Rattle.std.specs.Prelude.{◌≡◌, ℕ, List}
use Rattle.script_words.specs.declared.fault.LineErr.{LineErr}
use Rattle.message_show.specs.ShowLines.{AreRight, IsBadDigits, IsShown}

-- of an input one text is shown
abbrev pub OneTextIsShown : Type 0
OneTextIsShown = (input text other : List ℕ) → IsShown input text → IsShown input other → text ≡ other

-- what is shown has right lines alone
abbrev pub ShownIsRight : Type 0
ShownIsRight = (input text : List ℕ) → IsShown input text → AreRight input

-- an input with a bad line has not right lines alone
abbrev pub BadIsNotRight : Type 0
BadIsNotRight = (input : List ℕ) (e : LineErr) → AreRight input → IsBadDigits input e → ⊥

-- an input has one first bad line, and it has one fault
abbrev pub OneBadLine : Type 0
OneBadLine = (input : List ℕ) (d e : LineErr) → IsBadDigits input d → IsBadDigits input e → d ≡ e
