-- What the program writes, in terms of what its reader left.
use Rattle.std.specs.Prelude.{ℕ, List, length}
use Rattle.text_plan.specs.Printed.{in_room, PrintedTo}
use Rattle.planning.specs.Program.{program_text}
use Rattle.refusals.specs.Verdicts.{Answer}

-- room for any text that the program prints
abbrev pub room_for : ℕ
room_for = 65536

-- `print_text`: what the program prints for a text stands in the list, or 7 where the list is shorter; nothing else is refused
abbrev pub TextPrinted : List ℕ → List ℕ → Answer → List ℕ → Type 0
TextPrinted text out r out' = PrintedTo (in_room (program_text text) (length out)) out r out'
