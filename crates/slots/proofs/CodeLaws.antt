-- From what an entry promises and its answer in one number to what the exported function promises.
use Rattle.std.specs.Prelude.{Err}
use mathlib.Core.Path.{◌≡◌, refl, sym, ap, ◌∙◌}
use mathlib.Core.List.{List}
use Prim.Native.Nat.{ℕ}
use Rattle.refusals.specs.Outcomes.{Outcome, numbered, answered}
use Rattle.ranges.specs.declared.Range.{Range}
use Rattle.range_entries.specs.Entries.{Listed}
use Rattle.fitting.specs.Queries.{Slots}
use Rattle.queries.specs.Shares.{CrowdedBy}
use Rattle.capping.specs.Cap.{cap_verdict, CappedBy}
use Rattle.apart.specs.Apart.{ApartBy}
use Rattle.codes.specs.Codes.{code_of, count_code, verdict_code}
use Rattle.slots.specs.Exports.{ListCoded, CrowdCoded, CapCoded, ApartCoded}
use Rattle.refusals.specs.Verdicts.{Fine, Verdict, Answer}

pub list_coded : {o : Outcome (List Range)} {os oe os' oe' : List ℕ} {c : Answer} {r : ℕ} → Listed o os oe c os' oe' → r ≡ count_code (answered c) → ListCoded o os oe r os' oe'
list_coded a e = record { answer = e ∙ ap count_code a.answer; in_starts = a.in_starts; in_ends = a.in_ends }

pub crowd_coded : {o : Outcome (List ℕ)} {out out' : List ℕ} {c : Answer} {r : ℕ} → CrowdedBy o out c out' → r ≡ count_code (answered c) → CrowdCoded o out r out'
crowd_coded a e = record { answer = e ∙ ap count_code a.answer; in_out = a.in_out }

-- a verdict's code is that of its number and index
code_numbered : (v : Verdict) → verdict_code v ≡ code_of (numbered v)
code_numbered Fine = refl
code_numbered (Err e) = refl

by_number : (v w : Verdict) → numbered v ≡ numbered w → verdict_code v ≡ verdict_code w
by_number v w e = code_numbered v ∙ ap code_of e ∙ sym (code_numbered w)

pub cap_coded : {cells cells' : List ℕ} {count most r : ℕ} {v : Verdict} → CappedBy cells count most v cells' → r ≡ verdict_code v → CapCoded cells count most r cells'
cap_coded {cells} {cells'} {count} {most} {r} {v} a e = record { answer = e ∙ by_number v (cap_verdict cells count) a.answer; in_cells = a.in_cells }

pub apart_coded : {v w : Verdict} {o : Outcome Slots} {cells items cells' items' : List ℕ} {r : ℕ} → ApartBy v o cells items w cells' items' → r ≡ verdict_code w → ApartCoded v o cells items r cells' items'
apart_coded {v} {w} a e = record { answer = e ∙ by_number w v a.answer; in_cells = a.in_cells; in_items = a.in_items }
