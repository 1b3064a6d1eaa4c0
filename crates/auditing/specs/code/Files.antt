-- What the answer on the texts of a file asks.
use Rattle.std.specs.Prelude.{List, ◌≡◌, ℕ, length}
use Rattle.std.proofs.Math.Option.{none as nothing}
use Rattle.outcome.specs.Checked.{length_answer}
use Rattle.blocks.specs.Layout.{file_fault, response_in, response_length_in, script_in, script_length_in}

-- The file has no fault, and holds these texts, which are not too long.
pub record FileTexts (file script response : List ℕ) : Type 0 where
  pub right : file_fault file ≡ nothing
  pub script_is : script ≡ script_in file
  pub response_is : response ≡ response_in file
  pub short : length_answer script response ≡ nothing

-- The file has no fault, its texts are not too long, and what is lent has room for them and for no more.
pub record TextRooms (file script response : List ℕ) : Type 0 where
  pub right : file_fault file ≡ nothing
  pub short : length_answer (script_in file) (response_in file) ≡ nothing
  pub script_long : length script ≡ script_length_in file
  pub response_long : length response ≡ response_length_in file
