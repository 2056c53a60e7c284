-- `slots::slots_print_text` meets its contract.
use Rattle.slots.proofs.text_exports.slots_print_text.Goals as goal

pub returns : goal.returns
returns c =
    record { told = c.print_text.result; answer = c.answer.ensures; holds = c.print_text.ensures }
