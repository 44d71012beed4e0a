-- Replies are told apart.
use Rattle.std.proofs.Common.{◌≡◌, ℕ}
use Rattle.cca_base.specs.declared.events.Reply.TheVariants.{Send, Achieved, Unreachable}

pub same_send : (k l : ℕ) → Send k ≡ Send l → k ≡ l
same_send k l h = cc

pub achieved_send : (k : ℕ) → Achieved ≡ Send k → ⊥
achieved_send k h = cc

pub unreachable_send : (c mode k : ℕ) → Unreachable c mode ≡ Send k → ⊥
unreachable_send c mode k h = cc
