-- A text in an array of as many bytes as a name may have.
use Rattle.std.proofs.Common.{◌≡◌, ℕ, ◌≤◌, ◌-◌, List, ◌++◌, length, drop, replicate, ◌∙◌, arith}
use Rattle.std.proofs.lemmas.List.{length-append, length-drop, drop-replicate}
use Rattle.std.proofs.Math.Seq.{drop-append_seam}
use Rattle.cca_base.specs.declared.limits.TheConstants.{MAX_NAME}
use Rattle.cca_base.specs.Padded.{IsPadded}

pub padded : (text : List ℕ) → length text ≤ MAX_NAME → IsPadded (length text) (text ++ drop (length text) (replicate MAX_NAME 0))
padded text h = record {
  within = h;
  zeros = drop-append_seam text _ ∙ drop-replicate (length text) MAX_NAME 0;
  full =
      let zeros : List ℕ = replicate MAX_NAME 0 in
      let behind : length (drop (length text) zeros) ≡ MAX_NAME - length text = length-drop (length text) zeros in
      length-append text _ ∙ omega (arith, behind);
}
