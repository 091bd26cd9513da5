use Prim.Native.Nat.{ℕ}
use mir.Raw.{raw}
use base.Shift.{Keyless}
use denote.Memory.{lone}
use denote.RawPtr.{Ptr}
use denote.Builtin.{RawPtr, u64}
use denote.Param.Send.{IsSend, owning_send, struct_send, sendable}
use denote.Struct.Struct.{exits_of}
use denote.Struct.Owning.{shape, fields, to}
use Rattle.std_alloc.proofs.SendSync.{quiet, lies}
use Rattle.std.proofs.Crossing.{frees}
use Rattle.std.specs.declared.option.Option.{Option, TheVariants.None, TheVariants.Some}
use Rattle.vuthgal_c.proofs.held.Held.TheSendSync as held
use Rattle.vuthgal_c.specs.{Keep.heap, Keep.keeps, contracts.handle.Handle.the_row, contracts.handle.Handle.the_type}
use Rattle.vuthgal_c.proofs.Values.{Kept}

kept_keyless : (p : Ptr) (n : ℕ) (s : Option Kept.Denot) → Keyless (keeps Kept p n s)
kept_keyless p n None = λ _. tt
kept_keyless p n (Some x) = ((λ _. tt), (lies Kept held.the_send p x, frees.frees heap (raw (lone Kept.mir)) p))

pub send : IsSend the_row
send = let ps : IsSend RawPtr = search sendable in let ns : IsSend u64 = search sendable in
    owning_send the_type (ps, (ns, tt)) (λ d. kept_keyless d.at d.alive d.session)
    (λ k. quiet (to the_type) (exits_of k (fields the_type)) ((struct_send (shape the_type) (ps, (ns, tt))).leaving k))
