-- `spirv_input::append` meets its contract. After k parts the first k words are in place (`lib.Seq`'s `paste`). Assumes nothing.
use mathlib.Core.Path.{◌≡◌}
use Prim.Native.Nat.{◌*◌, ◌/◌, ◌≤◌}
use lib.ListN.{length, drop}
use lib.Seq.{paste}
use Rattle.std.specs.Slice.Iter.{chunks_exact_rest, chunks_exact_size}
use Rattle.spirv_input.specs.Bytes.{words_in}
use Rattle.spirv_input.proofs.append.Given as goal

abbrev pub invariant-loop-k : goal.invariant-loop-k
invariant-loop-k l = record {
  size : chunks_exact_size l.k-iterator.iter ≡ 4;
  rest : chunks_exact_rest l.k-iterator.iter ≡ drop (l.k-iterator.count * 4) l.bytes;
  within : l.k-iterator.count * 4 ≤ length l.bytes;
  put : l.words ≡ paste l.initial.words l.held (words_in l.bytes (length l.bytes / 4)) l.k-iterator.count;
  long : length l.words ≡ length l.initial.words;
}
