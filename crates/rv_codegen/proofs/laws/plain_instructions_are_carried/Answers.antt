use Rattle.rv_codegen.proofs.PlainCarries.{shr_carries, nop_carries, dup_carries, pop_carries, ldc_i4_carries, ldc_i8_carries, ldnull_carries, ldstr_carries, ldarg_carries, ldloc_carries, starg_carries, ldarga_carries, ldloca_carries, stloc_carries, add_carries, sub_carries, mul_carries, and_carries, or_carries, xor_carries, shl_carries, shr_un_carries, neg_carries, not_carries, conv_i4_carries, conv_i8_carries, conv_u8_carries, ceq_carries, cgt_carries, cgt_un_carries, clt_carries, clt_un_carries, br_carries, brtrue_carries, brfalse_carries, beq_carries, bne_un_carries, bge_carries, bgt_carries, ble_carries, blt_carries, bge_un_carries, bgt_un_carries, ble_un_carries, blt_un_carries, leave_carries, ret_carries, switch_carries, write_string_carries, write_int32_carries, write_int64_carries}
use Rattle.rv_codegen.proofs.laws.plain_instructions_are_carried.Goals as goal

pub returns-clause-nop : goal.returns-clause-nop
returns-clause-nop c b at = nop_carries b at

pub returns-clause-dup : goal.returns-clause-dup
returns-clause-dup c b at = dup_carries b at

pub returns-clause-pop : goal.returns-clause-pop
returns-clause-pop c b at = pop_carries b at

pub returns-clause-ldc_i4 : goal.returns-clause-ldc_i4
returns-clause-ldc_i4 c b at n h = ldc_i4_carries b at n h

pub returns-clause-ldc_i8 : goal.returns-clause-ldc_i8
returns-clause-ldc_i8 c b at n h = ldc_i8_carries b at n h

pub returns-clause-ldnull : goal.returns-clause-ldnull
returns-clause-ldnull c b at = ldnull_carries b at

pub returns-clause-ldstr : goal.returns-clause-ldstr
returns-clause-ldstr c b at n h = ldstr_carries b at n h

pub returns-clause-ldarg : goal.returns-clause-ldarg
returns-clause-ldarg c b at n = ldarg_carries b at n

pub returns-clause-ldloc : goal.returns-clause-ldloc
returns-clause-ldloc c b at n = ldloc_carries b at n

pub returns-clause-starg : goal.returns-clause-starg
returns-clause-starg c b at n = starg_carries b at n

pub returns-clause-stloc : goal.returns-clause-stloc
returns-clause-stloc c b at n = stloc_carries b at n

pub returns-clause-add : goal.returns-clause-add
returns-clause-add c b at = add_carries b at

pub returns-clause-sub : goal.returns-clause-sub
returns-clause-sub c b at = sub_carries b at

pub returns-clause-mul : goal.returns-clause-mul
returns-clause-mul c b at = mul_carries b at

pub returns-clause-and : goal.returns-clause-and
returns-clause-and c b at = and_carries b at

pub returns-clause-or : goal.returns-clause-or
returns-clause-or c b at = or_carries b at

pub returns-clause-xor : goal.returns-clause-xor
returns-clause-xor c b at = xor_carries b at

pub returns-clause-shl : goal.returns-clause-shl
returns-clause-shl c b at = shl_carries b at

pub returns-clause-shr_un : goal.returns-clause-shr_un
returns-clause-shr_un c b at = shr_un_carries b at

pub returns-clause-neg : goal.returns-clause-neg
returns-clause-neg c b at = neg_carries b at

pub returns-clause-not : goal.returns-clause-not
returns-clause-not c b at = not_carries b at

pub returns-clause-conv_i4 : goal.returns-clause-conv_i4
returns-clause-conv_i4 c b at = conv_i4_carries b at

pub returns-clause-conv_i8 : goal.returns-clause-conv_i8
returns-clause-conv_i8 c b at = conv_i8_carries b at

pub returns-clause-conv_u8 : goal.returns-clause-conv_u8
returns-clause-conv_u8 c b at = conv_u8_carries b at

pub returns-clause-ceq : goal.returns-clause-ceq
returns-clause-ceq c b at = ceq_carries b at

pub returns-clause-cgt : goal.returns-clause-cgt
returns-clause-cgt c b at = cgt_carries b at

pub returns-clause-cgt_un : goal.returns-clause-cgt_un
returns-clause-cgt_un c b at = cgt_un_carries b at

pub returns-clause-clt : goal.returns-clause-clt
returns-clause-clt c b at = clt_carries b at

pub returns-clause-clt_un : goal.returns-clause-clt_un
returns-clause-clt_un c b at = clt_un_carries b at

pub returns-clause-br : goal.returns-clause-br
returns-clause-br c b at n = br_carries b at n

pub returns-clause-brtrue : goal.returns-clause-brtrue
returns-clause-brtrue c b at n = brtrue_carries b at n

pub returns-clause-brfalse : goal.returns-clause-brfalse
returns-clause-brfalse c b at n = brfalse_carries b at n

pub returns-clause-beq : goal.returns-clause-beq
returns-clause-beq c b at n = beq_carries b at n

pub returns-clause-bne_un : goal.returns-clause-bne_un
returns-clause-bne_un c b at n = bne_un_carries b at n

pub returns-clause-bge : goal.returns-clause-bge
returns-clause-bge c b at n = bge_carries b at n

pub returns-clause-bgt : goal.returns-clause-bgt
returns-clause-bgt c b at n = bgt_carries b at n

pub returns-clause-ble : goal.returns-clause-ble
returns-clause-ble c b at n = ble_carries b at n

pub returns-clause-blt : goal.returns-clause-blt
returns-clause-blt c b at n = blt_carries b at n

pub returns-clause-bge_un : goal.returns-clause-bge_un
returns-clause-bge_un c b at n = bge_un_carries b at n

pub returns-clause-bgt_un : goal.returns-clause-bgt_un
returns-clause-bgt_un c b at n = bgt_un_carries b at n

pub returns-clause-ble_un : goal.returns-clause-ble_un
returns-clause-ble_un c b at n = ble_un_carries b at n

pub returns-clause-blt_un : goal.returns-clause-blt_un
returns-clause-blt_un c b at n = blt_un_carries b at n

pub returns-clause-switch : goal.returns-clause-switch
returns-clause-switch c b at targets = switch_carries b at targets

pub returns-clause-leave : goal.returns-clause-leave
returns-clause-leave c b at n = leave_carries b at n

pub returns-clause-write_int32 : goal.returns-clause-write_int32
returns-clause-write_int32 c b at = write_int32_carries b at

pub returns-clause-write_int64 : goal.returns-clause-write_int64
returns-clause-write_int64 c b at = write_int64_carries b at

pub returns-clause-ldarga : goal.returns-clause-ldarga
returns-clause-ldarga c b at n = ldarga_carries b at n

pub returns-clause-ldloca : goal.returns-clause-ldloca
returns-clause-ldloca c b at n = ldloca_carries b at n

pub returns-clause-shr : goal.returns-clause-shr
returns-clause-shr c b at = shr_carries b at

pub returns-clause-write_string : goal.returns-clause-write_string
returns-clause-write_string c b at = write_string_carries b at

pub returns-clause-ret : goal.returns-clause-ret
returns-clause-ret c b at = ret_carries b at
