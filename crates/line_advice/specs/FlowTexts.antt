-- What is wrong with a flow, in words.
use Rattle.std.specs.Prelude.{ℕ, List, ◌++◌, codes}
use Rattle.std.specs.Fmt.{decimal}
use Rattle.line_advice.specs.declared.flow_faults.FlowRate.{FlowRate}
use Rattle.line_advice.specs.declared.flow_faults.FlowRate.TheVariants.{R, B, P}
use Rattle.line_advice.specs.declared.flow_faults.FlowFault.{FlowFault}
use Rattle.line_advice.specs.declared.flow_faults.FlowFault.TheVariants.{Zero, Large, NoRate, NoUnit, LargeUnit, LargePacket}

-- the letters of RFC 2210, 3.2
abbrev pub letter_text : FlowRate → List ℕ
letter_text R = codes "r"
letter_text B = codes "b"
letter_text P = codes "p"

unfoldable pub large_text : List ℕ
large_text = codes " is at most 70368739983360, the largest rate"

unfoldable pub nearest_head : List ℕ
nearest_head = codes " is no number of 32-bit floating point: the nearest rates are "

unfoldable pub nearest_text : ℕ → ℕ → List ℕ
nearest_text below above = nearest_head ++ decimal below ++ codes " and " ++ decimal above

abbrev pub flow_fault_text : FlowFault → List ℕ
flow_fault_text (Zero rate) = letter_text rate ++ codes " is at least 1"
flow_fault_text (Large rate) = letter_text rate ++ large_text
flow_fault_text (NoRate rate below above) = letter_text rate ++ nearest_text below above
flow_fault_text NoUnit = codes "m is at least 1"
flow_fault_text LargeUnit = codes "m is at most M"
flow_fault_text LargePacket = codes "M is at most 4294967295"
