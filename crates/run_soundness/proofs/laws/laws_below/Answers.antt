use Rattle.run_soundness.proofs.laws.laws_below.Goals as goal

pub returns : goal.returns
returns c = record {
  holes = c.longer_histories.ensures.holes;
  puts = c.longer_histories.ensures.puts;
  fitting = c.kept_messages.ensures.fitting;
  kept_rise = c.kept_messages.ensures.rise;
  kept_reached = c.kept_messages.ensures.reached;
  kept_put = c.kept_messages.ensures.put;
  mirrors_outlast = c.growing_origins.ensures.mirrors;
  mirrors_stay = c.growing_mirrors.ensures.passed;
  mirrors_store = c.growing_mirrors.ensures.stored;
  sources_outlast = c.growing_origins.ensures.sources;
  sources_stay = c.growing_sources.ensures.passed;
  sources_bind = c.growing_sources.ensures.bound;
  sources_store = c.growing_sources.ensures.stored;
  facts_grow = c.facts_of_histories.ensures.grow;
  facts_tell = c.facts_of_histories.ensures.tell;
  facts_fit = c.facts_of_histories.ensures.fits;
  wanted = c.wanted_messages.ensures;
  new_right = c.right_chains.ensures.new;
  pumps_right = c.right_chains.ensures.pumps;
  answers_right = c.right_chains.ensures.answers;
  beats_right = c.right_chains.ensures.beats;
  pauses_right = c.right_chains.ensures.pauses;
  longer_right = c.longer_chains.ensures;
  images_grow = c.images_of_logs.ensures.grows;
  images_tell = c.images_of_logs.ensures.tell;
  names_rise = c.names_of_images.ensures.rise;
  images_legal = c.legality_by_images.ensures.follow;
  legal_fit = c.legality_by_images.ensures.fit;
  steps_follow = c.steps_of_logs.ensures.follow;
}
