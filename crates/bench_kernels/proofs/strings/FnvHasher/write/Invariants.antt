use Rattle.std.proofs.Common.{◌≡◌, take}
use Rattle.bench_kernels.specs.Fnv.{fnv_bytes}
use Rattle.bench_kernels.proofs.strings.FnvHasher.write.Given as goal

-- the bytes so far went in
abbrev pub invariant-loop-byte : goal.invariant-loop-byte
invariant-loop-byte l = l.state ≡ fnv_bytes l.fn.self.state (take l.byte-index l.bytes)
