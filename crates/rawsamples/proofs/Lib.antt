pub mod RawSamplesLaws
