-- What a problem of paths means.
use Rattle.group_search.specs.Questions.{Question}

-- what is asked, and memory for it
pub record PathMeaning (P S : Type 0) : Type 1 where
  pub question : P → Question
  pub is_space : P → S → Type 0
