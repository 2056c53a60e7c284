-- `layout` meets its contract: each region begins where the one before ends.
use native.Mathlib.Omega.{arith}
use Rattle.job_layout.proofs.layout.Goals as goal

pub overflow_add-words : goal.overflow_add-words
overflow_add-words c = omega (arith, c.requires.registers, c.requires.few_insts, c.requires.few_operands, c.requires.few_locals, c.requires.few_slots, c.requires.few_addresses, c.requires.few_ends, c.requires.few_pieces, c.requires.few_ranges)

pub overflow_mul-used : goal.overflow_mul-used
overflow_mul-used c = omega (arith, c.requires.registers, c.requires.few_insts, c.requires.few_operands, c.requires.few_locals, c.requires.few_slots, c.requires.few_addresses, c.requires.few_ends, c.requires.few_pieces, c.requires.few_ranges)

pub overflow_mul-used-2 : goal.overflow_mul-used-2
overflow_mul-used-2 c = omega (arith, c.requires.registers, c.requires.few_insts, c.requires.few_operands, c.requires.few_locals, c.requires.few_slots, c.requires.few_addresses, c.requires.few_ends, c.requires.few_pieces, c.requires.few_ranges)

pub overflow_add-used : goal.overflow_add-used
overflow_add-used c = omega (arith, c.requires.registers, c.requires.few_insts, c.requires.few_operands, c.requires.few_locals, c.requires.few_slots, c.requires.few_addresses, c.requires.few_ends, c.requires.few_pieces, c.requires.few_ranges)

pub overflow_add-used-2 : goal.overflow_add-used-2
overflow_add-used-2 c = omega (arith, c.requires.registers, c.requires.few_insts, c.requires.few_operands, c.requires.few_locals, c.requires.few_slots, c.requires.few_addresses, c.requires.few_ends, c.requires.few_pieces, c.requires.few_ranges)

pub overflow_mul-used-3 : goal.overflow_mul-used-3
overflow_mul-used-3 c = omega (arith, c.requires.registers, c.requires.few_insts, c.requires.few_operands, c.requires.few_locals, c.requires.few_slots, c.requires.few_addresses, c.requires.few_ends, c.requires.few_pieces, c.requires.few_ranges)

pub overflow_add-used-3 : goal.overflow_add-used-3
overflow_add-used-3 c = omega (arith, c.requires.registers, c.requires.few_insts, c.requires.few_operands, c.requires.few_locals, c.requires.few_slots, c.requires.few_addresses, c.requires.few_ends, c.requires.few_pieces, c.requires.few_ranges)

pub overflow_add-used-4 : goal.overflow_add-used-4
overflow_add-used-4 c = omega (arith, c.requires.registers, c.requires.few_insts, c.requires.few_operands, c.requires.few_locals, c.requires.few_slots, c.requires.few_addresses, c.requires.few_ends, c.requires.few_pieces, c.requires.few_ranges)

pub overflow_add-keys : goal.overflow_add-keys
overflow_add-keys c = omega (arith, c.requires.registers, c.requires.few_insts, c.requires.few_operands, c.requires.few_locals, c.requires.few_slots, c.requires.few_addresses, c.requires.few_ends, c.requires.few_pieces, c.requires.few_ranges)

pub overflow_add-keys-2 : goal.overflow_add-keys-2
overflow_add-keys-2 c = omega (arith, c.requires.registers, c.requires.few_insts, c.requires.few_operands, c.requires.few_locals, c.requires.few_slots, c.requires.few_addresses, c.requires.few_ends, c.requires.few_pieces, c.requires.few_ranges)

pub overflow_add-free : goal.overflow_add-free
overflow_add-free c = omega (arith, c.requires.registers, c.requires.few_insts, c.requires.few_operands, c.requires.few_locals, c.requires.few_slots, c.requires.few_addresses, c.requires.few_ends, c.requires.few_pieces, c.requires.few_ranges)

pub overflow_add-heads : goal.overflow_add-heads
overflow_add-heads c = omega (arith, c.requires.registers, c.requires.few_insts, c.requires.few_operands, c.requires.few_locals, c.requires.few_slots, c.requires.few_addresses, c.requires.few_ends, c.requires.few_pieces, c.requires.few_ranges)

pub overflow_add-nexts : goal.overflow_add-nexts
overflow_add-nexts c = omega (arith, c.requires.registers, c.requires.few_insts, c.requires.few_operands, c.requires.few_locals, c.requires.few_slots, c.requires.few_addresses, c.requires.few_ends, c.requires.few_pieces, c.requires.few_ranges)

pub overflow_add-at : goal.overflow_add-at
overflow_add-at c = omega (arith, c.requires.registers, c.requires.few_insts, c.requires.few_operands, c.requires.few_locals, c.requires.few_slots, c.requires.few_addresses, c.requires.few_ends, c.requires.few_pieces, c.requires.few_ranges)

pub overflow_add-ends : goal.overflow_add-ends
overflow_add-ends c = omega (arith, c.requires.registers, c.requires.few_insts, c.requires.few_operands, c.requires.few_locals, c.requires.few_slots, c.requires.few_addresses, c.requires.few_ends, c.requires.few_pieces, c.requires.few_ranges)

pub overflow_add-ends-2 : goal.overflow_add-ends-2
overflow_add-ends-2 c = omega (arith, c.requires.registers, c.requires.few_insts, c.requires.few_operands, c.requires.few_locals, c.requires.few_slots, c.requires.few_addresses, c.requires.few_ends, c.requires.few_pieces, c.requires.few_ranges)

pub overflow_add-ends-3 : goal.overflow_add-ends-3
overflow_add-ends-3 c = omega (arith, c.requires.registers, c.requires.few_insts, c.requires.few_operands, c.requires.few_locals, c.requires.few_slots, c.requires.few_addresses, c.requires.few_ends, c.requires.few_pieces, c.requires.few_ranges)

pub overflow_add-result : goal.overflow_add-result
overflow_add-result c = omega (arith, c.requires.registers, c.requires.few_insts, c.requires.few_operands, c.requires.few_locals, c.requires.few_slots, c.requires.few_addresses, c.requires.few_ends, c.requires.few_pieces, c.requires.few_ranges)
