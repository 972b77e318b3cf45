use Rattle.std.proofs.Common.{refl, le_of_suc-le-suc, arith, rules}
use Rattle.level.proofs.RangesLaws.{formula_at, past}
use Rattle.level.proofs.need.by_range.Goals as goal

pub returns-in-0 : goal.returns-in-0
returns-in-0 c = formula_at 0 refl (omega arith) (omega arith)

pub returns-in-32 : goal.returns-in-32
returns-in-32 c = formula_at 2 refl (omega arith) (omega arith)

pub returns-in-40 : goal.returns-in-40
returns-in-40 c = formula_at 5 refl (omega arith) (omega arith)

pub returns-in-41 : goal.returns-in-41
returns-in-41 c = formula_at 6 refl (omega arith) (omega arith)

pub returns-in-47 : goal.returns-in-47
returns-in-47 c = formula_at 8 refl (omega arith) (omega arith)

pub returns-in-64 : goal.returns-in-64
returns-in-64 c = formula_at 10 refl (omega arith) (omega arith)

pub returns-in-65 : goal.returns-in-65
returns-in-65 c = formula_at 11 refl (omega arith) (omega arith)

pub returns-in-66 : goal.returns-in-66
returns-in-66 c = formula_at 12 refl (omega arith) (omega arith)

pub returns-in-112 : goal.returns-in-112
returns-in-112 c = formula_at 14 refl (omega arith) (omega arith)

pub returns-in-144 : goal.returns-in-144
returns-in-144 c = formula_at 16 refl (omega arith) (omega arith)

pub returns-in-145 : goal.returns-in-145
returns-in-145 c = formula_at 17 refl (omega arith) (omega arith)

pub returns-in-146 : goal.returns-in-146
returns-in-146 c = formula_at 18 refl (omega arith) (omega arith)

pub returns-in-161 : goal.returns-in-161
returns-in-161 c = formula_at 20 refl (omega arith) (omega arith)

pub returns-in-176 : goal.returns-in-176
returns-in-176 c = formula_at 22 refl (omega arith) (omega arith)

pub returns-in-196 : goal.returns-in-196
returns-in-196 c = formula_at 24 refl (omega arith) (omega arith)

pub returns-in-230 : goal.returns-in-230
returns-in-230 c = formula_at 29 refl (omega arith) (omega arith)

pub returns-in-231 : goal.returns-in-231
returns-in-231 c = formula_at 30 refl (omega arith) (omega arith)

pub returns-in-232 : goal.returns-in-232
returns-in-232 c = formula_at 31 refl (omega arith) (omega arith)

pub returns-in-233 : goal.returns-in-233
returns-in-233 c = formula_at 32 refl (omega arith) (omega arith)

pub returns-in-234 : goal.returns-in-234
returns-in-234 c = formula_at 33 refl (omega arith) (omega arith)

pub returns-in-235 : goal.returns-in-235
returns-in-235 c = formula_at 34 refl (omega arith) (omega arith)

pub returns-in-236 : goal.returns-in-236
returns-in-236 c = formula_at 35 refl (omega arith) (omega arith)

pub returns-in-248 : goal.returns-in-248
returns-in-248 c = formula_at 37 refl (omega arith) (omega arith)

pub returns-in-1-to-31 : goal.returns-in-1-to-31
returns-in-1-to-31 c = formula_at 1 refl (search (past 0x00, rules)) (search (le_of_suc-le-suc, rules))

pub returns-in-33-to-35 : goal.returns-in-33-to-35
returns-in-33-to-35 c = formula_at 3 refl (search (past 0x20, rules)) (search (le_of_suc-le-suc, rules))

pub returns-in-36-to-39 : goal.returns-in-36-to-39
returns-in-36-to-39 c = formula_at 4 refl (search rules) (search (le_of_suc-le-suc, rules))

pub returns-in-42-to-46 : goal.returns-in-42-to-46
returns-in-42-to-46 c = formula_at 7 refl (search (past 0x28, past 0x29, rules)) (search (le_of_suc-le-suc, rules))

pub returns-in-48-to-63 : goal.returns-in-48-to-63
returns-in-48-to-63 c = formula_at 9 refl (search (past 0x2f, rules)) (search (le_of_suc-le-suc, rules))

pub returns-in-67-to-111 : goal.returns-in-67-to-111
returns-in-67-to-111 c = formula_at 13 refl (search (past 0x40, past 0x41, past 0x42, rules)) (search (le_of_suc-le-suc, rules))

pub returns-in-113-to-143 : goal.returns-in-113-to-143
returns-in-113-to-143 c = formula_at 15 refl (search (past 0x70, rules)) (search (le_of_suc-le-suc, rules))

pub returns-in-147-to-160 : goal.returns-in-147-to-160
returns-in-147-to-160 c = formula_at 19 refl (search (past 0x90, past 0x91, past 0x92, rules)) (search (le_of_suc-le-suc, rules))

pub returns-in-162-to-175 : goal.returns-in-162-to-175
returns-in-162-to-175 c = formula_at 21 refl (search (past 0xa1, rules)) (search (le_of_suc-le-suc, rules))

pub returns-in-177-to-195 : goal.returns-in-177-to-195
returns-in-177-to-195 c = formula_at 23 refl (search (past 0xb0, rules)) (search (le_of_suc-le-suc, rules))

pub returns-in-197-to-198 : goal.returns-in-197-to-198
returns-in-197-to-198 c = formula_at 25 refl (search (past 0xc4, rules)) (search (le_of_suc-le-suc, rules))

pub returns-in-199-to-200 : goal.returns-in-199-to-200
returns-in-199-to-200 c = formula_at 26 refl (search rules) (search (le_of_suc-le-suc, rules))

pub returns-in-201-to-227 : goal.returns-in-201-to-227
returns-in-201-to-227 c = formula_at 27 refl (search rules) (search (le_of_suc-le-suc, rules))

pub returns-in-228-to-229 : goal.returns-in-228-to-229
returns-in-228-to-229 c = formula_at 28 refl (search rules) (search (le_of_suc-le-suc, rules))

pub returns-in-237-to-247 : goal.returns-in-237-to-247
returns-in-237-to-247 c = formula_at 36 refl (search (past 0xe6, past 0xe7, past 0xe8, past 0xe9, past 0xea, past 0xeb, past 0xec, rules) depth 9) (search (le_of_suc-le-suc, rules))

pub returns-in-249-to-255 : goal.returns-in-249-to-255
returns-in-249-to-255 c = formula_at 38 refl (search (past 0xf8, rules)) (search (le_of_suc-le-suc, rules))
