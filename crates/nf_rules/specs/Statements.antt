-- The printed form of statements, by the statements of nft(8). The prefix of a log line stands in quotes, a translated
-- destination as an address and a port, and marks in hexadecimal.
use Rattle.std.specs.Prelude.{ℕ, ◌-◌, ◌/◌, ◌%◌, ◌^◌, List, ◌++◌, codes}
use Rattle.fw_quote.specs.Quoted.{quoted}
use Rattle.fw_addr.specs.Hexadecimal.{hex_byte}
use Rattle.fw_addr.specs.Names.{kind_text, level_text, reject_text}
use Rattle.fw_addr.specs.Targets.{target_text}
use Rattle.fw_addr.specs.declared.log.LogLine.{LogLine}
use Rattle.nf_rules.specs.Matches.{reference}
use Rattle.nf_rules.specs.declared.statement.Stmt.{Stmt}
use Rattle.nf_rules.specs.declared.statement.Stmt.TheVariants as stmt

-- a number of 32 bits in eight digits of base 16, in lower case
unfoldable pub hex_word : ℕ → List ℕ
hex_word n = hex_byte (n / 2 ^ 24) ++ hex_byte (n / 2 ^ 16 % 256) ++ hex_byte (n / 2 ^ 8 % 256) ++ hex_byte (n % 256)

-- the bits of a mask of 32 bits turned round
abbrev pub inverted : ℕ → ℕ
inverted mask = 2 ^ 32 - 1 - mask

-- the bits of the mask are cleared in the mark, and the value's bits turned (META EXPRESSIONS, mark)
unfoldable pub mark_text : ℕ → ℕ → List ℕ
mark_text value mask =
    codes "meta mark set mark and 0x" ++ hex_word (inverted mask) ++ codes " xor 0x" ++ hex_word value

-- LOG STATEMENT
abbrev pub log_text : LogLine → List ℕ
log_text line =
    codes "log " ++ kind_text line.kind ++ codes " prefix " ++ quoted line.prefix ++ codes " level " ++ level_text line.level

abbrev pub statement_text : Stmt → List ℕ
statement_text stmt.Accept = codes "accept"
statement_text stmt.Drop = codes "drop"
statement_text (stmt.Reject kind) = codes "reject with " ++ reject_text kind
statement_text (stmt.Jump chain) = codes "jump " ++ chain
statement_text (stmt.Goto chain) = codes "goto " ++ chain
statement_text stmt.Return = codes "return"
statement_text (stmt.Log line) = log_text line
statement_text (stmt.Mark value mask) = mark_text value mask
statement_text (stmt.DnatTo target) = codes "dnat to " ++ target_text target
statement_text stmt.Masquerade = codes "masquerade"
statement_text (stmt.VmapIn map) = codes "iifname vmap " ++ reference map
statement_text (stmt.VmapOut map) = codes "oifname vmap " ++ reference map
statement_text (stmt.VmapSrc map) = codes "saddr vmap " ++ reference map
statement_text (stmt.VmapDst map) = codes "daddr vmap " ++ reference map
