-- Quotes are single bytes.
use Rattle.std.proofs.Common.{◌≡◌, ℕ, ◌<◌, true, arith}
use Rattle.std.proofs.lemmas.Grind.{common_steps}
use Rattle.fw_words.specs.Words.{is_quote}

pub quote_is_ascii : (byte : ℕ) → is_quote byte ≡ true → byte < 128
quote_is_ascii byte is = grind (arith, common_steps)
