-- What the functions here promise each other. No public promise names these.
use Rattle.std.specs.Prelude.{[]}
use Rattle.carrying.specs.Insts.{Inst, inst_of}

-- what stands for an instruction that there is not
abbrev pub no_inst : Inst
no_inst = inst_of (λ f. 0) []
