use Rattle.config_json.proofs.write.config_to_json.Goals as goal

pub text_of-requires : goal.text_of-requires
text_of-requires c = c.in_ok-value.ensures.plain
