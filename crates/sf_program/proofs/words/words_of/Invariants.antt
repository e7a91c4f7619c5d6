use Rattle.std.proofs.Common.{◌≡◌, ◌==◌, drop, length}
use Rattle.sf_program.proofs.words.words_of.Given as goal

-- the words are the items so far without the first
abbrev pub invariant-loop-arg : goal.invariant-loop-arg
invariant-loop-arg g l = record {
  words : l.words.items ≡ drop 1 l.yielded;
  first : l.is_name ≡ (length l.yielded == 0);
}
