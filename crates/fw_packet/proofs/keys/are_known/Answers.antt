use Rattle.std.proofs.Common.{◌∙◌}
use Rattle.fw_packet.specs.PacketWords.{is_known}
use Rattle.fw_packet.proofs.Texts.{all_texts}
use Rattle.fw_packet.proofs.keys.are_known.Goals as goal

pub returns : goal.returns
returns c = c.all_are_known.ensures ∙ all_texts is_known c.args.words.now
