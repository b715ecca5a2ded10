-- The claims of the public laws.
use Rattle.std.specs.Prelude.{◌≡◌, List, ℕ, Some}
use Rattle.rsvp_base.specs.TokenBucket.{TokenBucket}
use Rattle.script_words.specs.declared.fault.LineWhy.{LineWhy}
use Rattle.load_policer.specs.Policing.{KeepsTheBound}
use Rattle.load_policer.specs.Drafts.{Draft, Follows, HasFault, Leads, nothing}
use Rattle.load_policer.specs.Endings.{ComesTo}
use Rattle.load_policer.specs.declared.ending.Ending.{Ending}

-- over the same bytes, policing that ends neither by a fault of a device nor out of memory comes to one ending and one text
abbrev pub OneEnding : Type 0
OneEnding = (bytes x y : List ℕ) (a b : Ending) → ComesTo a bytes x → ComesTo b bytes y → (a ≡ b) × (x ≡ y)

-- a bad line has one fault, and follows nothing
abbrev pub OneFault : Type 0
OneFault = (d : Draft) (line : List ℕ) (v w : LineWhy) → HasFault d line v → HasFault d line w → v ≡ w

abbrev pub BadLinesDoNotFollow : Type 0
BadLinesDoNotFollow = (d : Draft) (line : List ℕ) (why : LineWhy) (new : Draft) → HasFault d line why → Follows d line new → ⊥

-- in each stretch of the packets that passed there are at most r times its time and b bytes
abbrev pub WhatPassesOfAStreamKeepsTheBound : Type 0
WhatPassesOfAStreamKeepsTheBound = (lines : List (List ℕ)) (d : Draft) (f : TokenBucket) → Leads nothing lines d → d.flow ≡ Some f → KeepsTheBound f d.passed
